-- Small texts with their tokens, and trees with their data, worked out by hand.
use Rattle.std.proofs.Common.{◌≡◌, ℕ, List, [], ◌∷◌, refl}
use Rattle.std.specs.Prelude.{pos, negsuc, codes, true, false}
use Rattle.scheme_base.specs.declared.pos.Pos.{Pos}
use Rattle.datum_form.specs.declared.token.Token.{Token}
use Rattle.datum_form.specs.Syntax.{Syntax}
use Rattle.datum_form.specs.declared.token.Atom.TheVariants.{Integer, Boolean, Character, String, Symbol}
use Rattle.datum_form.specs.declared.token.Mark.TheVariants.{Quote, Quasiquote, Unquote, Splice}
use Rattle.datum_form.specs.declared.token.Token.TheVariants.{Open, OpenVector, Close, Dot, Marking, Atomic}
use Rattle.datum_form.specs.Syntax.Syntax.{Leaf, Marked, Listed}
use Rattle.datum_form.specs.Syntax.Rest.{End, More, Tail}
use Rattle.datum_form.specs.Data.{datum_of, Datum, Datum as datum}
use Rattle.datum_form.specs.Data.Items.{none, item}
use Rattle.datum_form.specs.Text.{Ending, Lexed, lexed}
use Rattle.datum_form.specs.Text.Ending.{Clean, BadAt, RangeAt, OpenAt}

abbrev at : ℕ → ℕ → Pos
at line col = record { line = line; col = col }

abbrev clean : List Token → Lexed
clean ts = record { tokens = ts; ending = Clean }

abbrev stops : Ending → Lexed
stops e = record { tokens = []; ending = e }

list : lexed (codes "(a . b)") ≡ clean (Open (at 1 1) ∷ Atomic (at 1 2) (Symbol (codes "a")) ∷ Dot (at 1 4) ∷ Atomic (at 1 6) (Symbol (codes "b")) ∷ Close (at 1 7) ∷ [])
list = refl

lines : lexed (codes "; x\n 'A") ≡ clean (Marking (at 2 2) Quote ∷ Atomic (at 2 3) (Symbol (codes "a")) ∷ [])
lines = refl

marks : lexed (codes "`,@,x") ≡ clean (Marking (at 1 1) Quasiquote ∷ Marking (at 1 2) Splice ∷ Marking (at 1 4) Unquote ∷ Atomic (at 1 5) (Symbol (codes "x")) ∷ [])
marks = refl

numbers : lexed (codes "#x-fF #e#b101 #B#E11 -7 +0") ≡ clean (Atomic (at 1 1) (Integer (negsuc 254)) ∷ Atomic (at 1 7) (Integer (pos 5)) ∷ Atomic (at 1 15) (Integer (pos 3)) ∷ Atomic (at 1 22) (Integer (negsuc 6)) ∷ Atomic (at 1 25) (Integer (pos 0)) ∷ [])
numbers = refl

greatest : lexed (codes "2305843009213693951") ≡ clean (Atomic (at 1 1) (Integer (pos 2305843009213693951)) ∷ [])
greatest = refl

past : lexed (codes "2305843009213693952") ≡ stops (RangeAt (at 1 1))
past = refl

least : lexed (codes "-2305843009213693952") ≡ clean (Atomic (at 1 1) (Integer (negsuc 2305843009213693951)) ∷ [])
least = refl

below : lexed (codes "-2305843009213693953") ≡ stops (RangeAt (at 1 1))
below = refl

characters : lexed (codes "#\\( #\\a#\\SPACE") ≡ record { tokens = Atomic (at 1 1) (Character 40) ∷ []; ending = BadAt (at 1 5) }
characters = refl

space : lexed (codes "#\\Space)#\\)") ≡ clean (Atomic (at 1 1) (Character 32) ∷ Close (at 1 8) ∷ Atomic (at 1 9) (Character 41) ∷ [])
space = refl

strings : lexed (codes "\"a\\\"\\\\b\"x") ≡ clean (Atomic (at 1 1) (String (codes "a\"\\b")) ∷ Atomic (at 1 9) (Symbol (codes "x")) ∷ [])
strings = refl

escape : lexed (codes "\"a\\n\"") ≡ stops (BadAt (at 1 1))
escape = refl

open_text : lexed (codes "\"a\\n") ≡ stops (OpenAt (at 1 1))
open_text = refl

vector : lexed (codes "#T #(#f ... + - 1+") ≡ record { tokens = Atomic (at 1 1) (Boolean true) ∷ OpenVector (at 1 4) ∷ Atomic (at 1 6) (Boolean false) ∷ Atomic (at 1 9) (Symbol (codes "...")) ∷ Atomic (at 1 13) (Symbol (codes "+")) ∷ Atomic (at 1 15) (Symbol (codes "-")) ∷ []; ending = BadAt (at 1 17) }
vector = refl

character_end : lexed (codes "#\\") ≡ stops (BadAt (at 1 1))
character_end = refl

-- the tree and the datum of a name at this byte
abbrev leaf : ℕ → Syntax
leaf col = Leaf (at 1 col) (Symbol (codes "a"))

abbrev alone : ℕ → Datum
alone col = datum.Atomic (at 1 col) (Symbol (codes "a"))

-- (a . (a a)) is (a a a)
joined :
    datum_of (Listed (at 1 1) (leaf 2) (Tail (at 1 4) (Listed (at 1 6) (leaf 7) (More (leaf 9) End) (at 1 10))) (at 1 11))
    ≡ datum.List (at 1 1) (item (alone 2) (item (alone 7) (item (alone 9) none)))
joined = refl

-- (a . a)
dotted : datum_of (Listed (at 1 1) (leaf 2) (Tail (at 1 4) (leaf 6)) (at 1 7)) ≡ datum.Dotted (at 1 1) (item (alone 2) none) (alone 6)
dotted = refl

-- (a . 'a) is (a quote a)
mark_joined :
    datum_of (Listed (at 1 1) (leaf 2) (Tail (at 1 4) (Marked (at 1 6) Quote (leaf 7))) (at 1 8))
    ≡ datum.List (at 1 1) (item (alone 2) (item (datum.Atomic (at 1 6) (Symbol (codes "quote"))) (item (alone 7) none)))
mark_joined = refl
