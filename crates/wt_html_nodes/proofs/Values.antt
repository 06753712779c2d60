-- Values of attributes: they are texts, and what the data among them say.
use Rattle.std.proofs.Common.{◌≡◌, ℕ, Bool, true, false, Option, Some, Result, List, [], ◌∷◌, refl, sym, ap, ◌∙◌}
use Rattle.std.specs.Prelude.{◌&&◌, IfOk, if◌then◌else◌}
use Rattle.std.specs.Str.{bytes_eq, is_utf8}
use Rattle.wt_tree.specs.declared.kind.Kind.{Kind}
use Rattle.wt_html_grammar.specs.Markup.{Pair}
use Rattle.wt_schema.specs.Attributes.{value_of}
use Rattle.wt_schema.specs.Data.{sync_fits}
use Rattle.wt_html_nodes.specs.Texts.{are_utf8_values}
use Rattle.wt_html_nodes.specs.Told.{sync_said}
use Rattle.wt_html_nodes.specs.declared.data.SyncData.{SyncData}
use Rattle.wt_span.specs.declared.memory.NoMemory.{NoMemory}

pub and_left : (a b : Bool) → (a && b) ≡ true → a ≡ true
and_left true b e = refl
and_left false b e = cc

pub and_right : (a b : Bool) → (a && b) ≡ true → b ≡ true
and_right true b e = e
and_right false b e = cc

picked : (t : Bool) (v : List ℕ) (o : Option (List ℕ)) (w : List ℕ) → is_utf8 v ≡ true → ((u : List ℕ) → o ≡ Some u → is_utf8 u ≡ true)
    → (if t then Some v else o) ≡ Some w → is_utf8 w ≡ true
picked true v o w h g e = let same : v ≡ w = cc in ap is_utf8 (sym same) ∙ h
picked false v o w h g e = g w e

-- the value of an attribute is UTF-8 where all are
pub value_utf8 : (name : List ℕ) (ps : List Pair) (v : List ℕ) → are_utf8_values ps ≡ true → value_of name ps ≡ Some v → is_utf8 v ≡ true
value_utf8 name [] v h e = cc
value_utf8 name (p ∷ ps) v h e =
    picked (bytes_eq p.0 name) p.1 (value_of name ps) v (and_left (is_utf8 p.1) (are_utf8_values ps) h)
    (λ u f. value_utf8 name ps u (and_right (is_utf8 p.1) (are_utf8_values ps) h) f) e

-- the same value, seen in other words
pub sync_at : (k : Kind) (r : Result SyncData NoMemory) (o p : Option (List ℕ)) → o ≡ p
    → IfOk r (λ d. sync_said d ≡ sync_fits k o) → IfOk r (λ d. sync_said d ≡ sync_fits k p)
sync_at k r o p e h = rw (sym e) h
