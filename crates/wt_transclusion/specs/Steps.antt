-- What is read of a stretch in one step.
use Rattle.std.specs.Prelude.{◌≡◌, ◌<◌, ◌≤◌, ℕ, suc, ◌+◌, ◌-◌, Bool, Some, List, ◌∷◌, slice_get, take, drop}
use Rattle.wt_span.specs.declared.form.Mode.{Mode}
use Rattle.wt_span.specs.declared.form.LexKind.{LexKind}
use Rattle.wt_span.specs.Lexemes.{words}
use Rattle.wt_span.specs.Braces.{Member, Members, lexeme, call, members, CallAt, calls}
use Rattle.wt_lex.specs.declared.lexeme.Lexeme.{Lexeme}
use Rattle.wt_expand.specs.Expansion.{Output, Reading, just, then_output, joined, chars, lexeme_items, outputs_of}
use Rattle.wt_transclusion.specs.declared.cursor.Next.{Next}
use Rattle.wt_transclusion.specs.declared.cursor.Next.TheVariants as next
use Rattle.wt_transclusion.specs.Cursors.{starts}
use Rattle.wt_transclusion.specs.Marks.{Mark, words_marks}
use Rattle.wt_transclusion.specs.Reads.{braces_of}
use Rattle.wt_transclusion.specs.Stretch.{calls_before, IsStretch}

-- what members give that begin at a place of a text
abbrev pub given_from : Reading → Bool → List ℕ → ℕ → List Member → Output
given_from r s t p xs = joined (outputs_of r s (drop p t) (members xs))

-- each byte of a lexeme of this kind is a character by itself
abbrev pub IsCharacters : LexKind → Type 0
IsCharacters kind = (m : Mode) (bs : List ℕ) → lexeme_items m kind bs ≡ chars bs

-- Lexemes that are read as one of this kind are first, with so many bytes, and these members are left after them. A run of braces
-- may be cut anywhere, since it is characters; and lexemes that are characters may be taken together, whatever their kinds.
pub data Leads : LexKind → ℕ → List Member → List Member → Type 0 where
  one_lexeme : (kind : LexKind) (n : ℕ) (ys : List Member) → Leads kind n (lexeme (kind, n) ∷ ys) ys
  one_brace : (kind : LexKind) (n : ℕ) (ys : List Member) → IsCharacters kind
      → Leads kind 1 (lexeme (kind, suc (suc n)) ∷ ys) (lexeme (kind, suc n) ∷ ys)
  one_more : (kind other : LexKind) (n k : ℕ) (xs ys zs : List Member) → IsCharacters kind → IsCharacters other
      → Leads kind n xs ys → Leads other k ys zs → Leads kind (n + k) xs zs

-- From a place the lexemes that begin there may be taken, up to another place, with one of this kind that ends there: where it is
-- characters, those that are characters too and begin in front of a limit.
pub data MayFollow (kind : LexKind) (limit : ℕ) : ℕ → List Lexeme → ℕ → Type 0 where
  no_more : (to : ℕ) (xs : List Lexeme) → MayFollow kind limit to xs to
  and_one : (to end : ℕ) (x : Lexeme) (xs : List Lexeme) → IsCharacters kind → IsCharacters x.kind → to < limit
      → MayFollow kind limit x.at.end xs end → MayFollow kind limit to (x ∷ xs) end

-- Bytes of lexemes, read as one of this kind, are taken from a place up to another one, and the members that are left are in a stretch.
pub record IsTaken (w : List Mark) (cs : List CallAt) (t : List ℕ) (kind : LexKind) (p q e : ℕ) (xs : List Member) : Type 0 where
  pub left : List Member
  pub stretch : IsStretch w cs q e left
  pub leads : Leads kind (q - p) xs left
  pub gives : (r : Reading) (s : Bool) → given_from r s t p xs
      ≡ then_output (just (lexeme_items r.mode kind (take (q - p) (drop p t)))) (given_from r (starts t q) t q left)

-- the first of the members is a call
pub record IsCallThere (xs : List Member) : Type 0 where
  pub braces : ℕ
  pub inside : Members
  pub after : List Member
  pub is : xs ≡ call braces inside ∷ after

-- a stretch of a text
abbrev pub IsStretchOf : Mode → List ℕ → ℕ → ℕ → List Member → Type 0
IsStretchOf m t p e xs = IsStretch (words_marks (words m t)) (calls 0 (words m t)) p e xs

-- what is at the first place of a stretch: its call, or bytes of a lexeme up to a place
abbrev pub AnswersNext : Mode → List ℕ → ℕ → ℕ → List Member → Next → Type 0
AnswersNext m t p e xs (next.Call b) = IsCallThere xs × (slice_get (calls 0 (words m t)) (calls_before p (calls 0 (words m t))) ≡ Some (braces_of b))
AnswersNext m t p e xs (next.Chunk kind to) = (p < to) × (to ≤ e) × IsTaken (words_marks (words m t)) (calls 0 (words m t)) t kind p to e xs
