-- A token of the code without the place in memory where its word lies.
use Rattle.pl_filter.specs.Tokens as tokens
use Rattle.pl_filter.specs.declared.token.Token.{Token}
use Rattle.pl_filter.specs.declared.token.Token.TheVariants.{Open, Close, Word}

abbrev pub seen : Token → tokens.Token
seen Open = tokens.Open
seen Close = tokens.Close
seen (Word word) = tokens.Word word.now
