-- Both ends of texts and items, as the code goes over them.
use Rattle.std.specs.Prelude.{◌≡◌, ◌<◌, ℕ, zero, suc, Bool, true, false, Option, Some, None, List, [], ◌∷◌, length, reverse}
use Rattle.wt_span.specs.declared.form.ItemForm.{ItemForm}
use Rattle.wt_span.specs.declared.form.ItemForm.TheVariants as form
use Rattle.wt_span.specs.declared.form.Piece.{Piece}
use Rattle.wt_span.specs.Items.{Item, char, whole, items_of}
use Rattle.wt_expand.specs.Texts.{without_front}

-- without what passes the test at the end
abbrev pub without_back : {A : Type 0} → (A → Bool) → List A → List A
without_back p xs = reverse (without_front p (reverse xs))

abbrev pub is_chars : ItemForm → Bool
is_chars form.Chars = true
is_chars (form.Entity c) = false
is_chars form.Nowiki = false
is_chars form.Extension = false
is_chars form.Function = false
is_chars form.Comment = false
is_chars form.Include = false
is_chars form.Hidden = false
is_chars form.EmptyCall = false

-- what a cut leaves of a piece's items, where anything is left
abbrev pub IsLeft : (List Item → List Item) → Piece → Option Piece → Type 0
IsLeft cut p None = cut (items_of p) ≡ []
IsLeft cut p (Some q) = (items_of q ≡ cut (items_of p)) × (0 < length (items_of q))

abbrev pub IsAscii : Item → Type 0
IsAscii (char o b) = b < 128
IsAscii (whole f o bs) = ⊥

-- the first so many items, as far as there are any, are ASCII characters
abbrev pub BeginsAscii : ℕ → List Item → Type 0
BeginsAscii zero xs = Unit {0}
BeginsAscii (suc n) [] = Unit {0}
BeginsAscii (suc n) (x ∷ xs) = IsAscii x × BeginsAscii n xs
