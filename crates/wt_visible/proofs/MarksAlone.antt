-- Where comments, include tags, calls and islands are looked for, the other nodes don't count.
use Rattle.std.proofs.Common.{◌≡◌, ◌||◌, Bool, true, false, ℕ, List, [], ◌∷◌, ◌++◌, map, refl, sym, ap, ◌∙◌, subst, if◌then◌else◌}
use Rattle.std.specs.Prelude.{◌↔◌}
use Rattle.std.specs.Bool.{Decides}
use Rattle.std.specs.List.{flat_map}
use Rattle.std.proofs.lemmas.Grind.{flat_map-append}
use Rattle.std.proofs.lemmas.List.{append-nil}
use Rattle.std.proofs.lemmas.List.Concat.{flat_map-cons}
use Rattle.wt_tree.specs.declared.kind.Kind.{Kind}
use Rattle.wt_tree.specs.declared.kind.Kind.TheVariants as kind
use Rattle.wt_checks.specs.Places.{Page, Place}
use Rattle.wt_visible.specs.KeptMarks.{is_mark, is_own, mark_at, marks, source_at, sources, still, still_at, IsWithin, KeepsEach, KeepsInOrder, KeepsKind, KeepsOrder}
use Rattle.wt_visible.specs.Tally.{trimmed, StandAmong}

-- ---- the kinds that are looked for

abbrev Looked : Kind → Type 0
Looked k = (p : Place) → is_own k p ≡ true → is_mark p ≡ true

or_here : (a b : Bool) → a ≡ true → (a || b) ≡ true
or_here true b e = refl
or_here false b e = absurd (cc)

or_there : (a b : Bool) → b ≡ true → (a || b) ≡ true
or_there true b e = refl
or_there false b e = e

comments : Looked kind.Comment
comments p e = or_here _ (is_own kind.Island p) (or_here _ (is_own kind.Group p) (or_here (is_own kind.Comment p) (is_own kind.Include p) e))

tags : Looked kind.Include
tags p e = or_here _ (is_own kind.Island p) (or_here _ (is_own kind.Group p) (or_there (is_own kind.Comment p) (is_own kind.Include p) e))

calls : Looked kind.Group
calls p e = or_here _ (is_own kind.Island p) (or_there (is_own kind.Comment p || is_own kind.Include p) (is_own kind.Group p) e)

islands : Looked kind.Island
islands p e = or_there (is_own kind.Comment p || is_own kind.Include p || is_own kind.Group p) (is_own kind.Island p) e

not_own : (k : Kind) → Looked k → (p : Place) → is_mark p ≡ false → (b : Bool) → is_own k p ≡ b → b ≡ false
not_own k looked p none false e = refl
not_own k looked p none true e = let t : true ≡ false = sym (looked p e) ∙ none in absurd (cc)

source_none : (k : Kind) → Looked k → (p : Place) → is_mark p ≡ false → source_at k p ≡ []
source_none k looked p none = let e = not_own k looked p none (is_own k p) refl in cc

still_none : (k : Kind) → Looked k → (page : Page) (p : Place) → is_mark p ≡ false → still_at k page p ≡ []
still_none k looked page p none = let e = not_own k looked p none (is_own k p) refl in cc

-- ---- what is gathered of them

same_gathered : (f : Place → List (List ℕ)) → ((p : Place) → is_mark p ≡ false → f p ≡ []) → (ps : List Place) → flat_map f (marks ps) ≡ flat_map f ps
same_gathered f none [] = refl
same_gathered f none (p ∷ ps) =
    ap (flat_map f) (flat_map-cons mark_at p ps)
    ∙ flat_map-append f (mark_at p) (marks ps)
    ∙ ap (λ xs. xs ++ flat_map f (marks ps)) (here (is_mark p) refl)
    ∙ ap (λ xs. f p ++ xs) (same_gathered f none ps)
    ∙ sym (flat_map-cons f p ps)
  where
    here : (b : Bool) → is_mark p ≡ b → flat_map f (if b then p ∷ [] else []) ≡ f p
    here true e = flat_map-cons f p [] ∙ append-nil (f p)
    here false e = sym (none p e)

same_sources : (k : Kind) → Looked k → (ps : List Place) → sources k (marks ps) ≡ sources k ps
same_sources k looked ps = same_gathered (source_at k) (source_none k looked) ps

same_still : (k : Kind) → Looked k → (page : Page) (ps : List Place) → still k page (marks ps) ≡ still k page ps
same_still k looked page ps = same_gathered (still_at k page) (still_none k looked page) ps

-- ---- what is decided

of_three : (P : List (List ℕ) → List (List ℕ) → List (List ℕ) → Type 0) (a b c d e f : List (List ℕ)) → a ≡ d → b ≡ e → c ≡ f → P a b c → P d e f
of_three P a b c d e f x y z h = subst (λ w. P d e w) z (subst (λ w. P d w c) y (subst (λ w. P w b c) x h))

abbrev Kept : List (List ℕ) → List (List ℕ) → List (List ℕ) → Type 0
Kept edited new old = StandAmong (map trimmed edited) (map trimmed new) × StandAmong (map trimmed new) (map trimmed old)

abbrev Ordered : List (List ℕ) → List (List ℕ) → List (List ℕ) → Type 0
Ordered edited new old = IsWithin edited new

kind_alone : (k : Kind) → Looked k → (page : Page) (os es ns : List Place) → KeepsKind k page (marks os) (marks es) (marks ns) ↔ KeepsKind k page os es ns
kind_alone k looked page os es ns = (
  of_three Kept _ _ _ _ _ _ (same_still k looked page es) (same_sources k looked ns) (same_sources k looked os),
  of_three Kept _ _ _ _ _ _ (sym (same_still k looked page es)) (sym (same_sources k looked ns)) (sym (same_sources k looked os)),
)

order_alone : (page : Page) (es ns : List Place) → KeepsOrder page (marks es) (marks ns) ↔ KeepsOrder page es ns
order_alone page es ns = (
  of_three Ordered _ _ [] _ _ [] (same_still kind.Include tags page es) (same_sources kind.Include tags ns) refl,
  of_three Ordered _ _ [] _ _ [] (sym (same_still kind.Include tags page es)) (sym (same_sources kind.Include tags ns)) refl,
)

abbrev Alike : List (List ℕ) → List (List ℕ) → List (List ℕ) → Type 0
Alike edited new old = map trimmed edited ≡ map trimmed new

in_order_alone : (k : Kind) → Looked k → (page : Page) (es ns : List Place) → KeepsInOrder k page (marks es) (marks ns) ↔ KeepsInOrder k page es ns
in_order_alone k looked page es ns = (
  of_three Alike _ _ [] _ _ [] (same_still k looked page es) (same_sources k looked ns) refl,
  of_three Alike _ _ [] _ _ [] (sym (same_still k looked page es)) (sym (same_sources k looked ns)) refl,
)

pub marks_alone : (r : Bool) (page : Page) (os es ns : List Place) → Decides r (KeepsEach page (marks os) (marks es) (marks ns))
    → Decides r (KeepsEach page os es ns)
marks_alone r page os es ns d = (λ e. onward (d.0 e), λ h. d.1 (back h))
  where
    onward : KeepsEach page (marks os) (marks es) (marks ns) → KeepsEach page os es ns
    onward h = record {
      comments = (kind_alone kind.Comment comments page os es ns).0 h.comments;
      tags = (kind_alone kind.Include tags page os es ns).0 h.tags;
      calls = (in_order_alone kind.Group calls page es ns).0 h.calls;
      islands = (in_order_alone kind.Island islands page es ns).0 h.islands;
      order = (order_alone page es ns).0 h.order;
    }

    back : KeepsEach page os es ns → KeepsEach page (marks os) (marks es) (marks ns)
    back h = record {
      comments = (kind_alone kind.Comment comments page os es ns).1 h.comments;
      tags = (kind_alone kind.Include tags page os es ns).1 h.tags;
      calls = (in_order_alone kind.Group calls page es ns).1 h.calls;
      islands = (in_order_alone kind.Island islands page es ns).1 h.islands;
      order = (order_alone page es ns).1 h.order;
    }
