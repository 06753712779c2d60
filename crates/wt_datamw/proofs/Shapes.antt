-- Shapes of the JSON of both attributes, on the values that serde_json gives.
use Rattle.std.proofs.Common.{◌≡◌, ◌<◌, ◌≤◌, ℕ, Bool, false, List, [], ◌∷◌, length, map, refl, ap, arith, String, Global, string_bytes, Bor}
use Rattle.std.specs.Prelude.{◌&&◌, ◌||◌, None}
use Rattle.std.specs.List.{list_all, list_any}
use Rattle.std.specs.Str.{bytes_eq}
use Rattle.serde_json.specs.Data.{Data}
use Rattle.serde_json.specs.View.{view, items_view, members_view}
use Rattle.serde_json.specs.declared.value.Value.{Value}
use Rattle.wt_datamw.specs.SyncRead.{is_among, only_keys, are_four_numbers, four_small}
use Rattle.wt_tree.specs.declared.node.Part.{Part}
use Rattle.wt_datamw.specs.MwRead.{all_items, all_values, part_of, parts_of}

pub not_four_below : (vs : List Value) → length vs < 4 → (false ≡ are_four_numbers (items_view vs)) × (None ≡ four_small (items_view vs))
not_four_below [] h = (refl, refl)
not_four_below (a ∷ []) h = (refl, refl)
not_four_below (a ∷ b ∷ []) h = (refl, refl)
not_four_below (a ∷ b ∷ c ∷ []) h = (refl, refl)
not_four_below (a ∷ b ∷ c ∷ d ∷ vs) h = absurd (omega arith)

pub not_four_above : (vs : List Value) → 5 ≤ length vs → (false ≡ are_four_numbers (items_view vs)) × (None ≡ four_small (items_view vs))
not_four_above [] h = absurd (omega arith)
not_four_above (a ∷ []) h = absurd (omega arith)
not_four_above (a ∷ b ∷ []) h = absurd (omega arith)
not_four_above (a ∷ b ∷ c ∷ []) h = absurd (omega arith)
not_four_above (a ∷ b ∷ c ∷ d ∷ []) h = absurd (omega arith)
not_four_above (a ∷ b ∷ c ∷ d ∷ e ∷ vs) h = (refl, refl)

-- the keys of the entries of a map
pub keys_pass : (p : List ℕ → Bool) (es : List (String Global × Value)) → only_keys p (members_view es) ≡ list_all (λ k. p (string_bytes k)) (map (λ e. e.0) es)
keys_pass p [] = refl
keys_pass p (e ∷ es) = ap (λ b. p (string_bytes e.0) && b) (keys_pass p es)

pub among_names : (names : List (Bor (List ℕ))) (key : List ℕ) → list_any (λ name. bytes_eq name.now key) names ≡ is_among (map (λ name. name.now) names) key
among_names [] key = refl
among_names (name ∷ names) key = ap (λ b. bytes_eq name.now key || b) (among_names names key)

-- the values of the entries of a map
pub values_pass : (p : Data → Bool) (es : List (String Global × Value)) → all_values p (members_view es) ≡ list_all (λ v. p (view v)) (map (λ e. e.1) es)
values_pass p [] = refl
values_pass p (e ∷ es) = ap (λ b. p (view e.1) && b) (values_pass p es)

pub items_pass : (p : Data → Bool) (vs : List Value) → all_items p (items_view vs) ≡ list_all (λ v. p (view v)) vs
items_pass p [] = refl
items_pass p (v ∷ vs) = ap (λ b. p (view v) && b) (items_pass p vs)

pub parts_are : (vs : List Value) → parts_of (items_view vs) ≡ map (λ v. part_of (view v)) vs
parts_are [] = refl
parts_are (v ∷ vs) = ap (λ (ps : List Part). part_of (view v) ∷ ps) (parts_are vs)
