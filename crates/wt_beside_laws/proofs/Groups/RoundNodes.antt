-- A node of the page round what calls give shows in the page's tree what it shows by itself.
use Rattle.std.proofs.Common.{◌≡◌, ◌⊎◌, inl, inr, Bool, true, false, List, [], ◌∷◌, ◌++◌, refl, sym, ap, ◌∙◌}
use Rattle.std.specs.Prelude.{if◌then◌else◌}
use Rattle.wt_tree.specs.declared.kind.Kind.{Kind}
use Rattle.wt_tree.specs.declared.kind.Kind.TheVariants as kind
use Rattle.wt_tree.specs.Kinds.{is_leaf, showing, texts_of_kind}
use Rattle.wt_tree.specs.Plain.{Plains, plain_before, plains_before, shown_before}
use Rattle.wt_tree.specs.Tiling.{is_group}
use Rattle.wt_tree.specs.Tree.{Label, Tree, Trees}
use Rattle.wt_span.specs.Items.{Item, sources}
use Rattle.wt_span.specs.Origins.{OuterCall}
use Rattle.wt_inline.specs.ItemTree.{Head, ItemTree, inner, ItemTrees, nothing, further, forest, tree_items, held_by_all}
use Rattle.wt_inline.specs.Parts.{Part, node, children}
use Rattle.wt_context.proofs.PlainNodes.{AreTexts}
use Rattle.wt_annotated.specs.Annotated.{kept_label}
use Rattle.wt_annotated.specs.CutTexts.{cut_as, cut_texts, all_cut_texts}
use Rattle.wt_annotated.specs.Labels.{label_at}
use Rattle.wt_annotated.specs.WithoutCalls.{inside_by, placed, all_placed}
use Rattle.wt_part_laws.specs.CallPieces.{IsOwnOrGiven, IsRoundNode, IsPieceNode, EachNode, ArePieceNodes, is_cut_anew, call_pieces, node_in, pieces_in_page}
use Rattle.wt_part_laws.specs.HeldCalls.{IsRoundGiven, block_of_pieces}
use Rattle.wt_part_laws.specs.Placeless.{placeless_label, placeless, all_placeless}
use Rattle.wt_part_laws.specs.Standing.{standing}
use Rattle.wt_part_laws.proofs.CallPieces.{round_some}
use Rattle.wt_part_laws.proofs.HeldBlocks.{given_block_is}
use Rattle.wt_typed_blocks.proofs.EditedShows.{shown_same}
use Rattle.wt_beside_laws.specs.RoundCalls.{IsRoundDeep, AreDeepPieces}
use Rattle.wt_beside_laws.proofs.Groups.Faults.{node_first}
use Rattle.wt_beside_laws.proofs.Groups.GivenNodes.{placeless_same, as_uncut, own_shows, ShowsAlike, IsShownAlike, trees_shown, children_shown, shown_in_page}

-- ---- its nodes as a list

abbrev list_of : ItemTrees → List ItemTree
list_of nothing = []
list_of (further t ts) = t ∷ list_of ts

forest_of : (ts : ItemTrees) → forest (list_of ts) ≡ ts
forest_of nothing = refl
forest_of (further t ts) = ap (further t) (forest_of ts)

abbrev as_parts : ItemTrees → List Part
as_parts nothing = []
as_parts (further t ts) = node t ∷ as_parts ts

no_children : children [] ≡ []
unfolding children
no_children = refl

children_of : (ts : ItemTrees) → children (as_parts ts) ≡ list_of ts
children_of nothing = no_children
children_of (further t ts) = node_first t (as_parts ts) ∙ ap (λ (us : List ItemTree). t ∷ us) (children_of ts)

all_texts : (ts : ItemTrees) → AreTexts (as_parts ts)
all_texts nothing = tt
all_texts (further t ts) = (tt, all_texts ts)

-- ---- they are pieces

pub no_group : (k : Kind) → is_leaf k ≡ false → is_group k ≡ false
no_group kind.Group e = let no : true ≡ false = e in absurd (cc)
no_group k e = refl

pub deep_round : (t : ItemTree) → IsRoundDeep t → IsRoundNode t
deep_round (inner h q ts c) r = r.0

deep_pieces : (ts : ItemTrees) → AreDeepPieces ts → ArePieceNodes (as_parts ts)
deep_pieces nothing h = tt
deep_pieces (further t ts) h = (one h.0, deep_pieces ts h.1)
  where
    one : IsOwnOrGiven t ⊎ IsRoundDeep t → IsPieceNode t
    one (inl g) = inl g
    one (inr r) = inr (deep_round t r)

round_given : (h : Head) (q : List Item) (ts : ItemTrees) (c : List Item) → IsRoundDeep (inner h q ts c) → IsRoundGiven h q (as_parts ts) c
round_given h q ts c r =
    let round : IsRoundNode (inner h q ts c) = r.0 in
    let same : forest (children (as_parts ts)) ≡ ts = ap forest (children_of ts) ∙ forest_of ts in
    record {
      no_leaf = round.0;
      own_opening = round.1;
      own_closing = round.3;
      parts = deep_pieces ts r.2;
      some = round_some (inner h q (forest (children (as_parts ts))) c) round;
    }

-- ---- what it shows by itself

alone_shows : (before : List Item) (t : ItemTree) (rest : Plains) → plain_before (cut_texts (placeless (placed before t))) rest ≡ plain_before (standing 0 [] t) rest
alone_shows before t rest =
    ap (λ (u : Tree). plain_before (cut_texts u) rest) (placeless_same before t ∙ sym (placeless_same [] t)) ∙ own_shows t rest

all_alone_show : (before : List Item) (ts : ItemTrees) (rest : Plains) → plains_before (all_cut_texts (all_placeless (all_placed before ts))) rest ≡ trees_shown (list_of ts) rest
all_alone_show before nothing rest = refl
all_alone_show before (further t ts) rest =
    alone_shows before t (plains_before (all_cut_texts (all_placeless (all_placed (before ++ tree_items t) ts))) rest)
    ∙ ap (plain_before (standing 0 [] t)) (all_alone_show (before ++ tree_items t) ts rest)

-- what is in it, where it is no leaf, no group, and no text in it is cut
inside_shows : (leaf group : Bool) (h : Head) (us : Trees) (rest : Plains) → leaf ≡ false → group ≡ false → is_cut_anew (texts_of_kind h.kind) ≡ false
    → plains_before (if group then all_placeless (inside_by leaf us) else cut_as (texts_of_kind h.kind) (all_cut_texts (all_placeless (inside_by leaf us)))) rest
    ≡ plains_before (all_cut_texts (all_placeless us)) rest
inside_shows true group h us rest e f g = let no : true ≡ false = e in absurd (cc)
inside_shows false true h us rest e f g = let no : true ≡ false = f in absurd (cc)
inside_shows false false h us rest e f g = ap (λ (vs : Trees). plains_before vs rest) (as_uncut (texts_of_kind h.kind) (all_cut_texts (all_placeless us)) g)

own_inside : (h : Head) (q : List Item) (ts : ItemTrees) (c : List Item) (rest : Plains) → IsRoundDeep (inner h q ts c)
    → plain_before (standing 0 [] (inner h q ts c)) rest
    ≡ shown_before (showing h.kind) (placeless_label (kept_label false h 0 [] (sources q) (sources c))) (λ ps. trees_shown (list_of ts) ps) rest
unfolding label_at
own_inside h q ts c rest r =
    let round : IsRoundNode (inner h q ts c) = r.0 in
    let l : Label = placeless_label (label_at 0 0 (is_leaf h.kind) h q (q ++ (held_by_all ts ++ c)) c) in
    let us : Trees = all_placed ([] ++ q) ts in
    sym (own_shows (inner h q ts c) rest)
    ∙ shown_same (showing h.kind) (placeless_label (kept_label false h 0 [] (sources q) (sources c))) l
    (λ ps. plains_before
    (if is_group h.kind then all_placeless (inside_by (is_leaf h.kind) us) else cut_as (texts_of_kind h.kind) (all_cut_texts (all_placeless (inside_by (is_leaf h.kind) us)))) ps)
    (λ ps. trees_shown (list_of ts) ps) rest (λ e. refl) refl
    (λ ps. inside_shows (is_leaf h.kind) (is_group h.kind) h us ps round.0 (no_group h.kind round.0) r.1 ∙ all_alone_show ([] ++ q) ts ps)

-- ---- in the page

page_inside : (group : Bool) (h : Head) (us : Trees) (rest : Plains) → group ≡ false → is_cut_anew (texts_of_kind h.kind) ≡ false
    → plains_before (if group then us else cut_as (texts_of_kind h.kind) (all_cut_texts us)) rest ≡ plains_before (all_cut_texts us) rest
page_inside true h us rest f g = let no : true ≡ false = f in absurd (cc)
page_inside false h us rest f g = ap (λ (vs : Trees). plains_before vs rest) (as_uncut (texts_of_kind h.kind) (all_cut_texts us) g)

page_node : (calls : List OuterCall) (h : Head) (q : List Item) (ts : ItemTrees) (c : List Item) → IsRoundDeep (inner h q ts c)
    → node_in calls (inner h q ts c) ≡ block_of_pieces calls h q (as_parts ts) c
page_node calls h q ts c r =
    let same : forest (children (as_parts ts)) ≡ ts = ap forest (children_of ts) ∙ forest_of ts in
    ap (λ (us : ItemTrees). node_in calls (inner h q us c)) (sym same) ∙ given_block_is calls h q (as_parts ts) c (round_given h q ts c r)

mutual
  pub round_alike : (calls : List OuterCall) (t : ItemTree) → IsRoundDeep t → ShowsAlike calls t
  round_alike calls (inner h q ts c) r = λ rest.
      let l : Label = placeless_label (kept_label false h 0 [] (sources q) (sources c)) in
      let us : Trees = pieces_in_page calls (call_pieces (children (as_parts ts))) in
      let round : IsRoundNode (inner h q ts c) = r.0 in
      let each : EachNode (IsShownAlike calls) (as_parts ts) = all_alike calls ts r.2 in
      ap (λ (u : Tree). plain_before (cut_texts u) rest) (page_node calls h q ts c r)
      ∙ shown_same (showing h.kind) l l (λ ps. plains_before (if is_group h.kind then us else cut_as (texts_of_kind h.kind) (all_cut_texts us)) ps)
      (λ ps. trees_shown (list_of ts) ps) rest (λ e. refl) refl
      (λ ps. page_inside (is_group h.kind) h us ps (no_group h.kind round.0) r.1
      ∙ shown_in_page calls (as_parts ts) ps each (all_texts ts)
      ∙ sym (children_shown (as_parts ts) ps (all_texts ts))
      ∙ ap (λ (vs : List ItemTree). trees_shown vs ps) (children_of ts))
      ∙ sym (own_inside h q ts c rest r)

  all_alike : (calls : List OuterCall) (ts : ItemTrees) → AreDeepPieces ts → EachNode (IsShownAlike calls) (as_parts ts)
  all_alike calls nothing h = tt
  all_alike calls (further t ts) h = (
    elim h.0 [
      | inl g ↦ inl g
      | inr r ↦ inr (deep_round t r, round_alike calls t r)
    ],
    all_alike calls ts h.1,
  )
