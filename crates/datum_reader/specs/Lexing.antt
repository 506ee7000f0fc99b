-- The tokens of what is left of a text.
use Rattle.std.specs.Prelude.{◌≡◌, ℕ, ◌+◌, ◌<◌, ◌≤◌, [], ◌∷◌, length}
use Rattle.datum_form.specs.declared.token.Token.{Token}
use Rattle.datum_form.specs.declared.piece.Piece.{Piece}
use Rattle.datum_form.specs.declared.piece.Piece.TheVariants.{Blank, Found, BadToken, BadNumber, OpenString}
use Rattle.datum_form.specs.Text.{Lexed, Ending, lexed_after}
use Rattle.datum_form.specs.Text.Ending.{Clean, BadAt, RangeAt, OpenAt}
use Rattle.datum_reader.specs.declared.lexer.Spot.{Spot}
use Rattle.datum_reader.specs.declared.lexer.Next.{Next}
use Rattle.datum_reader.specs.declared.lexer.Next.TheVariants as next

-- a piece that is passed over has at most so many bytes
abbrev pub fits : Piece → ℕ → Type 0
fits (Blank n) room = n ≤ room
fits (Found t n) room = n ≤ room
fits BadToken room = Unit {0}
fits BadNumber room = Unit {0}
fits OpenString room = Unit {0}

abbrev pub lexed_at : Spot → Lexed
lexed_at spot = lexed_after 0 spot.pos spot.rest.now

-- a token, and then others
abbrev pub token_then : Token → Lexed → Lexed
token_then t lex = record { tokens = t ∷ lex.tokens; ending = lex.ending }

-- no token, and how the text ends
abbrev pub ends : Ending → Lexed
ends ending = record { tokens = []; ending = ending }

-- this comes next in what is left
abbrev pub Scans : Spot → Next → Type 0
Scans spot (next.Token t after) = lexed_at spot ≡ token_then t (lexed_at after)
Scans spot next.End = lexed_at spot ≡ ends Clean
Scans spot (next.BadToken p) = lexed_at spot ≡ ends (BadAt p)
Scans spot (next.BadNumber p) = lexed_at spot ≡ ends (RangeAt p)
Scans spot (next.OpenString p) = lexed_at spot ≡ ends (OpenAt p)

-- places after a token pass no line and no byte that the text does not have
pub record Past (spot after : Spot) : Type 0 where
  pub shorter : length after.rest.now < length spot.rest.now
  pub line : after.pos.line + length after.rest.now ≤ spot.pos.line + length spot.rest.now
  pub col : after.pos.col + length after.rest.now ≤ spot.pos.col + length spot.rest.now

abbrev pub Shorter : Spot → Next → Type 0
Shorter spot (next.Token t after) = Past spot after
Shorter spot next.End = Unit {0}
Shorter spot (next.BadToken p) = Unit {0}
Shorter spot (next.BadNumber p) = Unit {0}
Shorter spot (next.OpenString p) = Unit {0}
