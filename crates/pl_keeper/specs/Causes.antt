-- What a keeper answers for what the database refuses.
use Rattle.sqlite.specs.declared.error.ErrorCode.TheVariants.{OutOfMemory}
use Rattle.sqlite.specs.declared.error.Error.{Error}
use Rattle.sqlite.specs.declared.error.Error.TheVariants.{SqliteFailure}
use Rattle.pl_keeper.specs.declared.error.KeepError.{KeepError}
use Rattle.pl_keeper.specs.declared.error.KeepError.TheVariants.{Failed, Memory}

-- want of memory is told as such, and all else is a failure
abbrev pub keep_error : Error → KeepError
keep_error (SqliteFailure OutOfMemory) = Memory
keep_error _ = Failed
