use Rattle.std.proofs.Common.{arith, get_or}
use Rattle.pl_filter.proofs.Lexing.{word_at, is_word_byte-none}
use Rattle.pl_filter.proofs.token.token_at.Goals as goal

pub returns-in_default-clause-token : goal.returns-in_default-clause-token
returns-in_default-clause-token c =
    word_at c.args.text.now c.args.at c.word_end-end.result c.requires.within
    (is_word_byte-none (get_or c.args.text.now c.args.at 0) c.requires.no_space (omega arith) (omega arith))
    c.word_end-end.ensures.run
