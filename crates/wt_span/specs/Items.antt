-- The items of an expanded page: bytes of characters, atoms and invisible marks, each with where it comes from.
use Rattle.std.specs.Prelude.{◌<◌, ◌^◌, ℕ, Bool, true, false, Option, Some, None, List, [], ◌∷◌, length, map, if◌then◌else◌}
use Rattle.std.specs.List.{flat_map}
use Rattle.wt_span.specs.declared.form.ItemForm.{ItemForm}
use Rattle.wt_span.specs.declared.form.ItemForm.TheVariants as form
use Rattle.wt_span.specs.declared.form.Piece.{Piece}
use Rattle.wt_span.specs.declared.origin.Origin.{Origin}
use Rattle.wt_span.specs.declared.origin.Origin.TheVariants as origin
use Rattle.wt_span.specs.Slice.{bytes_of}

-- A byte of a character, or a whole form with its source. It comes from the page itself (None), or from the k-th
-- outermost call or argument (Some k). One of the page has its own bytes as origin.
pub data Item : Type 0 where
  char : Option ℕ → ℕ → Item
  whole : ItemForm → Option ℕ → List ℕ → Item

abbrev pub source : Item → List ℕ
source (char o b) = b ∷ []
source (whole f o bs) = bs

-- the outermost call that it comes from
abbrev pub call_of : Item → Option ℕ
call_of (char o b) = o
call_of (whole f o bs) = o

abbrev pub sources : List Item → List ℕ
sources items = flat_map source items

-- so few bytes that a `u32` counts twice as many
abbrev pub AreFew : List Item → Type 0
AreFew xs = length (sources xs) < 2 ^ 31

-- invisible marks
abbrev pub is_mark_form : ItemForm → Bool
is_mark_form form.Chars = false
is_mark_form (form.Entity c) = false
is_mark_form form.Nowiki = false
is_mark_form form.Extension = false
is_mark_form form.Function = false
is_mark_form form.Comment = true
is_mark_form form.Include = true
is_mark_form form.Hidden = true
is_mark_form form.EmptyCall = true

abbrev pub is_mark : Item → Bool
is_mark (char o b) = false
is_mark (whole f o bs) = is_mark_form f

-- a character whose byte passes a test
abbrev pub is_char_in : (ℕ → Bool) → Item → Bool
is_char_in p (char o b) = p b
is_char_in p (whole f o bs) = false

-- an item by one number: a character by its byte, any atom by 256, any mark by 257
abbrev pub sign : Item → ℕ
sign (char o b) = b
sign (whole f o bs) = (if is_mark_form f then 257 else 256)

-- ---- the items of pieces

abbrev pub call_of_origin : Origin → Option ℕ
call_of_origin (origin.Page r) = None
call_of_origin (origin.Call k) = Some k

abbrev pub items_by : ItemForm → Option ℕ → List ℕ → List Item
items_by form.Chars o bs = map (char o) bs
items_by (form.Entity c) o bs = whole (form.Entity c) o bs ∷ []
items_by form.Nowiki o bs = whole form.Nowiki o bs ∷ []
items_by form.Extension o bs = whole form.Extension o bs ∷ []
items_by form.Function o bs = whole form.Function o bs ∷ []
items_by form.Comment o bs = whole form.Comment o bs ∷ []
items_by form.Include o bs = whole form.Include o bs ∷ []
items_by form.Hidden o bs = whole form.Hidden o bs ∷ []
items_by form.EmptyCall o bs = whole form.EmptyCall o bs ∷ []

abbrev pub items_of : Piece → List Item
items_of p = items_by p.form (call_of_origin p.origin) (bytes_of p.text)

abbrev pub items : List Piece → List Item
items ps = flat_map items_of ps
