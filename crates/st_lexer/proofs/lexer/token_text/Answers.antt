use Rattle.st_lexer.proofs.Letters.{token_is_utf8}
use Rattle.st_lexer.proofs.lexer.token_text.Goals as goal

pub from_utf8_unchecked-requires : goal.from_utf8_unchecked-requires
from_utf8_unchecked-requires c = token_is_utf8 c.args.class c.args.slice.now c.requires
