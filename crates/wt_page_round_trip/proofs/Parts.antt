-- The children of a node, from its parts: each leaf of characters is a text or a separator that may stand there, and each node is
-- one that may.
use Rattle.std.proofs.Common.{◌≡◌, ℕ, Bool, true, false, Option, List, [], ◌∷◌, ◌++◌, map, flat_map, IsUtf8, refl, sym, ap, ◌∙◌, subst}
use Rattle.std.specs.Prelude.{◌&&◌, if◌then◌else◌}
use Rattle.std.specs.List.{AllByRecursion}
use Rattle.std.proofs.lemmas.Bool.{and_parts}
use Rattle.wt_span.specs.Items.{char, sources}
use Rattle.wt_span.specs.Runs.{runs, IsRun, AreRuns}
use Rattle.wt_span.proofs.RunLaws.{runs_are}
use Rattle.wt_tree.specs.declared.kind.Kind.{Kind}
use Rattle.wt_tree.specs.Kinds.{texts_of_kind}
use Rattle.wt_recut.specs.Recut.{is_blank as is_white}
use Rattle.wt_schema.specs.Rows.{holds_text}
use Rattle.wt_schema.specs.Written.{leaf_kind, may_stand, HasLeafKind}
use Rattle.wt_inline.specs.declared.loose.Loose.{Loose}
use Rattle.wt_inline.specs.declared.loose.Loose.TheVariants.{Text, Sep}
use Rattle.wt_inline.specs.Carried.{shown_item}
use Rattle.wt_inline.specs.ItemTree.{ItemTree, forest}
use Rattle.wt_inline.specs.Parts.{Part, loose, node, held_parts, one_leaf, loose_kind, loose_leaf, child, children}
use Rattle.wt_inline.proofs.HeldLaws.{sources_chars}
use Rattle.wt_annotated.specs.Annotated.{unplaced, all_unplaced}
use Rattle.wt_annotated.specs.Labels.{label_at}
use Rattle.wt_page_round_trip.proofs.PageLines.{all_right}
use Rattle.wt_page_round_trip.proofs.PageNodes.{IsPageNode, IsElement, ArePageParts, IsLeafRun, leaf_run}
use Rattle.wt_page_round_trip.proofs.ShownNodes.{IsShownIn, AreShownIn}

-- a node of a page that may stand in one of this kind, within k elements
pub record IsWrittenNode (k : ℕ) (parent : Kind) (t : ItemTree) : Type 0 where
  pub shown : IsShownIn k parent (unplaced t)
  pub page : IsPageNode t
  pub element : IsElement t

-- a character that may stand there, or a node that may
abbrev pub IsShownPart : ℕ → Kind → Part → Type 0
IsShownPart k parent (loose j o b) = HasLeafKind (texts_of_kind parent) (leaf_kind parent) (loose_kind j) × (may_stand parent (b ∷ []) ≡ true)
IsShownPart k parent (node t) = IsShownIn k parent (unplaced t)

-- ---- a leaf

pub shown_chars : (o : Option ℕ) (bs : List ℕ) → flat_map shown_item (map (char o) bs) ≡ bs
shown_chars o [] = refl
shown_chars o (b ∷ bs) = ap (λ cs. b ∷ cs) (shown_chars o bs)

pub own_chars : (o : Option ℕ) (bs : List ℕ) → sources (map (char o) bs ++ []) ≡ bs
own_chars o [] = refl
own_chars o (b ∷ bs) = ap (λ cs. b ∷ cs) (own_chars o bs)

leaf_shown : (k : ℕ) (parent : Kind) (j : Loose) (o : Option ℕ) (b : ℕ) (bs : List ℕ) → HasLeafKind (texts_of_kind parent) (leaf_kind parent) (loose_kind j)
    → IsUtf8 (b ∷ bs) → may_stand parent (b ∷ bs) ≡ true → IsShownIn k parent (unplaced (loose_leaf j (map (char o) (b ∷ bs))))
unfolding label_at
leaf_shown k parent Text o b bs e u s = (
  record {
    kind = e;
    characters = subst IsUtf8 (sym (own_chars o (b ∷ bs))) u;
    some = refl;
    stands = ap (may_stand parent) (own_chars o (b ∷ bs)) ∙ s;
    shown = ap (λ cs. b ∷ cs) (shown_chars o bs ∙ sym (own_chars o bs));
    id = refl;
    opening = refl;
    closing = refl;
    attrs = refl;
    origin = refl;
    mark = refl;
    mw = refl;
  },
  refl,
)
leaf_shown k parent Sep o b bs e u s = (
  record {
    kind = e;
    characters = subst IsUtf8 (sym (own_chars o (b ∷ bs))) u;
    some = refl;
    stands = ap (may_stand parent) (own_chars o (b ∷ bs)) ∙ s;
    shown = refl;
    id = refl;
    opening = refl;
    closing = refl;
    attrs = refl;
    origin = refl;
    mark = refl;
    mw = refl;
  },
  refl,
)

-- ---- what its characters may be

blank_more : (b : ℕ) (bs : List ℕ) → is_white (b ∷ []) ≡ true → is_white bs ≡ true → is_white (b ∷ bs) ≡ true
blank_more b bs h e = let q = and_parts _ true h in ap (λ x. x && is_white bs) q.0 ∙ e

stands_more : (parent : Kind) (b : ℕ) (bs : List ℕ) → may_stand parent (b ∷ []) ≡ true → may_stand parent bs ≡ true → may_stand parent (b ∷ bs) ≡ true
stands_more parent b bs h e = by_test (holds_text parent) h e
  where
    by_test : (t : Bool) → (if t then true else is_white (b ∷ [])) ≡ true → (if t then true else is_white bs) ≡ true
        → (if t then true else is_white (b ∷ bs)) ≡ true
    by_test true h e = refl
    by_test false h e = blank_more b bs h e

run_stands : (k : ℕ) (parent : Kind) (j : Loose) (o : Option ℕ) (b : ℕ) (r others : List Part) → IsRun one_leaf (loose j o b ∷ r) others
    → AllByRecursion (IsShownPart k parent) (loose j o b ∷ (r ++ others)) → may_stand parent (sources (held_parts (loose j o b ∷ r))) ≡ true
run_stands k parent j o b [] others h a = a.0.1
run_stands k parent j o b (node t ∷ r) others h a = absurd (let e = h.0 in cc)
run_stands k parent j o b (loose i p c ∷ r) others h a =
    stands_more parent b (sources (held_parts (loose i p c ∷ r))) a.0.1 (run_stands k parent i p c r others h.1 a.1)

-- ---- all children

runs_shown : (k : ℕ) (parent : Kind) (rs : List (List Part)) (ps : List Part) → AreRuns one_leaf rs ps → ArePageParts [] ps
    → AllByRecursion (IsShownPart k parent) ps → AreShownIn k parent (all_unplaced (forest (map child rs)))
runs_shown k parent [] ps h w a = tt
runs_shown k parent ([] ∷ rs) ps h w a = absurd h.2
runs_shown k parent ((node t ∷ p ∷ r) ∷ rs) ps h w a = absurd (let e = h.2.0 in cc)
runs_shown k parent ((node t ∷ []) ∷ rs) ps h w a =
    let v : ArePageParts [] (node t ∷ h.0) = subst (ArePageParts []) h.1 w in
    let c = subst (λ (qs : List Part). AllByRecursion (IsShownPart k parent) qs) h.1 a in
    (c.0, runs_shown k parent rs h.0 h.3 v.3 c.1)
runs_shown k parent ((loose j o b ∷ r) ∷ rs) ps h w a =
    let v : ArePageParts [] ((loose j o b ∷ r) ++ h.0) = subst (ArePageParts []) h.1 w in
    let c : AllByRecursion (IsShownPart k parent) ((loose j o b ∷ r) ++ h.0) = subst (λ (qs : List Part). AllByRecursion (IsShownPart k parent) qs) h.1 a in
    let q : IsLeafRun [] j o (loose j o b ∷ r) h.0 = leaf_run [] j o b r h.0 h.2 v in
    let bytes : sources (held_parts (loose j o b ∷ r)) ≡ q.first ∷ q.more = ap sources q.items ∙ sources_chars o (q.first ∷ q.more) in
    let stands : may_stand parent (q.first ∷ q.more) ≡ true = ap (may_stand parent) (sym bytes) ∙ run_stands k parent j o b r h.0 h.2 c in (
      subst (λ xs. IsShownIn k parent (unplaced (loose_leaf j xs))) (sym q.items) (leaf_shown k parent j o q.first q.more c.0.0 q.good stands),
      runs_shown k parent rs h.0 h.3 q.rest (all_right (IsShownPart k parent) (loose j o b ∷ r) h.0 c),
    )

pub children_shown : (k : ℕ) (parent : Kind) (ps : List Part) → ArePageParts [] ps → AllByRecursion (IsShownPart k parent) ps
    → AreShownIn k parent (all_unplaced (forest (children ps)))
unfolding children
children_shown k parent ps w a = runs_shown k parent (runs one_leaf ps) ps (runs_are one_leaf ps) w a
