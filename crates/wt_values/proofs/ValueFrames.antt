-- One more value in a frame.
use Rattle.std.proofs.Common.{◌≡◌, ℕ, Bool, true, false, cond, Option, Some, None, option_map, List, [], ◌∷◌, ◌++◌, refl, sym, ap, ◌∙◌}
use Rattle.std.specs.Option.{option_or}
use Rattle.std.specs.Str.{bytes_eq}
use Rattle.wt_span.specs.declared.form.Piece.{Piece}
use Rattle.wt_span.specs.Items.{Item, items}
use Rattle.wt_expand.specs.Expansion.{Frame, value_of}

or_by : (t : Bool) (v : List Item) (o p : Option (List Item)) → option_or (cond t (Some v) o) p ≡ cond t (Some v) (option_or o p)
or_by true v o p = refl
or_by false v o p = refl

value_append : (name m : List ℕ) (v : List Item) (frame : Frame) → value_of name (frame ++ (m, v) ∷ []) ≡ cond (bytes_eq m name) (Some v) (value_of name frame)
value_append name m v [] = refl
value_append name m v ((n, w) ∷ frame) =
    ap (λ o. option_or o (cond (bytes_eq n name) (Some w) None)) (value_append name m v frame)
    ∙ or_by (bytes_eq m name) v (value_of name frame) (cond (bytes_eq n name) (Some w) None)

map_by : (t : Bool) (v : List Piece) (o : Option (List Piece)) (p : Option (List Item)) → option_map items o ≡ p
    → option_map items (cond t (Some v) o) ≡ cond t (Some (items v)) p
map_by true v o p e = refl
map_by false v o p e = e

-- a look-up after it
pub value_put : (name m : List ℕ) (v : List Piece) (frame : Frame) (old new : Option (List Piece)) → new ≡ cond (bytes_eq m name) (Some v) old
    → option_map items old ≡ value_of name frame
    → option_map items new ≡ value_of name (frame ++ (m, items v) ∷ [])
value_put name m v frame old new e h = ap (option_map items) e ∙ map_by (bytes_eq m name) v old (value_of name frame) h
    ∙ sym (value_append name m (items v) frame)
