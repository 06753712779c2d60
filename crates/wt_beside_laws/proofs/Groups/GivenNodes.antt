-- What a call gives shows in its group what it would show as the page's own, and so do all nodes of a block, one by one.
use Rattle.std.proofs.Common.{◌≡◌, ◌⊎◌, inl, inr, ℕ, ◌==◌, Bool, true, false, Option, None, Some, List, [], ◌∷◌, ◌++◌, map, refl, sym, ap, ap₂, ◌∙◌, subst, append-nil}
use Rattle.std.specs.Prelude.{if◌then◌else◌}
use Rattle.wt_tree.specs.declared.row.Texts.{Texts}
use Rattle.wt_tree.specs.declared.row.Texts.TheVariants.{Separators, Page, Bordered, OwnCharacter}
use Rattle.wt_tree.specs.Kinds.{is_leaf, texts_of_kind}
use Rattle.wt_tree.specs.Plain.{Plains, plain_before, plains_before}
use Rattle.wt_tree.specs.Tiling.{is_group}
use Rattle.wt_tree.specs.Tree.{Label, Tree, tree, Trees, more}
use Rattle.wt_span.specs.Items.{Item, char}
use Rattle.wt_span.specs.Origins.{OuterCall}
use Rattle.wt_span.specs.Runs.{IsRun, AreRuns, runs}
use Rattle.wt_span.proofs.RunLaws.{runs_are}
use Rattle.wt_inline.specs.ItemTree.{Head, ItemTree, inner, ItemTrees, nothing, further, forest, tree_items, held_by_all}
use Rattle.wt_inline.specs.declared.loose.Loose.TheVariants.{Text, Sep}
use Rattle.wt_inline.specs.Parts.{Part, loose, node, held_parts, one_leaf, child, children}
use Rattle.wt_context.proofs.PlainNodes.{AreTexts, texts_first, texts_rest}
use Rattle.wt_annotated.specs.Annotated.{no_place, unplaced, all_unplaced}
use Rattle.wt_annotated.specs.CutTexts.{cut_as, cut_texts, all_cut_texts}
use Rattle.wt_annotated.specs.Labels.{label_at}
use Rattle.wt_annotated.specs.Numbering.{with_numbers}
use Rattle.wt_annotated.specs.Seams.{first_of}
use Rattle.wt_annotated.specs.WithoutCalls.{inside_by, placed, all_placed}
use Rattle.wt_part_laws.specs.Placeless.{placeless_label, placeless, all_placeless}
use Rattle.wt_part_laws.specs.Standing.{standing}
use Rattle.wt_part_laws.specs.CallPieces.{AreItemsOf, is_cut_anew, IsUncut, AreUncut, IsOfCall, AreOfCall, IsOwnOrGiven, IsRoundNode, IsPieceNode, EachNode, AreOwnOrGiven, CallPiece, own, given, given_before, piece_before, call_pieces, group_of_call, node_in, pieces_in_page}
use Rattle.wt_part_laws.specs.Rounded.{IsOwn}
use Rattle.wt_part_laws.proofs.CallPieces.{own_node_in, trees_of, all_trees, ArePieces, AllNodes, AllPieceNodes, all_pieces, first_of_call, children_of_each}
use Rattle.wt_part_laws.proofs.GroupsStay.{numbers_gone}
use Rattle.wt_part_laws.proofs.Placeless.{shown_placeless, all_shown_placeless}
use Rattle.wt_part_laws.proofs.Recuts.{texts_same}
use Rattle.wt_beside_laws.specs.Given.{AreGivenBy}
use Rattle.wt_beside_laws.proofs.LineShown.{one_by_one, shown_append, run_shows}

-- ---- a node in a group, and on a page: but for numbers and places it is the same

abbrev own_label : Head → List Item → ItemTrees → List Item → Label
own_label h o ts c = placeless_label (no_place (label_at 0 0 (is_leaf h.kind) h o (o ++ (held_by_all ts ++ c)) c))

inside_same : (leaf : Bool) (us vs : Trees) → all_placeless us ≡ all_placeless vs → all_placeless (inside_by leaf us) ≡ all_placeless (inside_by leaf vs)
inside_same true us vs e = refl
inside_same false us vs e = e

mutual
  unfolding label_at

  pub placeless_same : (before : List Item) (t : ItemTree) → placeless (placed before t) ≡ placeless (unplaced t)
  placeless_same before (inner h o ts c) =
      ap (tree (own_label h o ts c)) (inside_same (is_leaf h.kind) (all_placed (before ++ o) ts) (all_unplaced ts) (all_placeless_same (before ++ o) ts))

  all_placeless_same : (before : List Item) (ts : ItemTrees) → all_placeless (all_placed before ts) ≡ all_placeless (all_unplaced ts)
  all_placeless_same before nothing = refl
  all_placeless_same before (further t ts) = ap₂ more (placeless_same before t) (all_placeless_same (before ++ tree_items t) ts)

-- ---- no text in it is cut

pub as_uncut : (x : Texts) (us : Trees) → is_cut_anew x ≡ false → cut_as x us ≡ us
as_uncut Separators us e = refl
as_uncut Page us e = refl
as_uncut Bordered us e = let no : true ≡ false = e in cc
as_uncut OwnCharacter us e = refl

either_uncut : (g : Bool) (x : Texts) (us vs : Trees) → is_cut_anew x ≡ false → vs ≡ us → (if g then us else cut_as x vs) ≡ us
either_uncut true x us vs e f = refl
either_uncut false x us vs e f = as_uncut x vs e ∙ f

inside_uncut : (leaf : Bool) (us : Trees) → all_cut_texts (all_placeless us) ≡ all_placeless us
    → all_cut_texts (all_placeless (inside_by leaf us)) ≡ all_placeless (inside_by leaf us)
inside_uncut true us e = refl
inside_uncut false us e = e

mutual
  unfolding label_at

  uncut : (t : ItemTree) → IsUncut t → cut_texts (placeless (unplaced t)) ≡ placeless (unplaced t)
  uncut (inner h o ts c) u =
      let us : Trees = all_placeless (inside_by (is_leaf h.kind) (all_unplaced ts)) in
      ap (tree (own_label h o ts c))
      (either_uncut (is_group h.kind) (texts_of_kind h.kind) us (all_cut_texts us) u.0 (inside_uncut (is_leaf h.kind) (all_unplaced ts) (all_uncut ts u.1)))

  all_uncut : (ts : ItemTrees) → AreUncut ts → all_cut_texts (all_placeless (all_unplaced ts)) ≡ all_placeless (all_unplaced ts)
  all_uncut nothing u = refl
  all_uncut (further t ts) u = ap₂ more (uncut t u.0) (all_uncut ts u.1)

-- ---- so it shows the same

pub given_shows : (t : ItemTree) (rest : Plains) → IsUncut t → plain_before (unplaced t) rest ≡ plain_before (standing 0 [] t) rest
given_shows t rest u =
    let same : placeless (standing 0 [] t) ≡ placeless (unplaced t) =
    texts_same (with_numbers 0 (placed [] t))
    ∙ ap cut_texts (numbers_gone 0 (placed [] t) ∙ placeless_same [] t)
    ∙ uncut t u in
    sym (shown_placeless (unplaced t) rest) ∙ ap (λ (v : Tree). plain_before v rest) (sym same) ∙ shown_placeless (standing 0 [] t) rest

-- nodes side by side
abbrev pub trees_shown : List ItemTree → Plains → Plains
trees_shown [] rest = rest
trees_shown (t ∷ ts) rest = plain_before (standing 0 [] t) (trees_shown ts rest)

pub trees_append : (ts us : List ItemTree) (rest : Plains) → trees_shown (ts ++ us) rest ≡ trees_shown ts (trees_shown us rest)
trees_append [] us rest = refl
trees_append (t ∷ ts) us rest = ap (plain_before (standing 0 [] t)) (trees_append ts us rest)

pub all_given_show : (j : ℕ) (ts : List ItemTree) (rest : Plains) → AreOfCall j ts → plains_before (all_unplaced (forest ts)) rest ≡ trees_shown ts rest
all_given_show j [] rest h = refl
all_given_show j (t ∷ ts) rest h =
    let first : IsOfCall j t = h.0 in
    ap (plain_before (unplaced t)) (all_given_show j ts rest h.1) ∙ given_shows t (trees_shown ts rest) first.uncut

-- and their group
pub group_shows : (calls : List OuterCall) (j : ℕ) (ts : List ItemTree) (rest : Plains) → AreOfCall j ts
    → plain_before (cut_texts (group_of_call calls j (forest ts))) rest ≡ trees_shown ts rest
group_shows calls j ts rest h = all_shown_placeless (all_unplaced (forest ts)) rest ∙ all_given_show j ts rest h

-- ---- its nodes in the page's tree

-- a node of the page shows what it does on a page without calls
pub own_shows : (t : ItemTree) (rest : Plains) → plain_before (cut_texts (placeless (placed [] t))) rest ≡ plain_before (standing 0 [] t) rest
own_shows t rest =
    ap (λ (u : Tree). plain_before (cut_texts u) rest) (sym (numbers_gone 0 (placed [] t)))
    ∙ ap (λ (u : Tree). plain_before u rest) (sym (texts_same (with_numbers 0 (placed [] t))))
    ∙ shown_placeless (standing 0 [] t) rest

-- so it does where calls give something in it
abbrev pub ShowsAlike : List OuterCall → ItemTree → Type 0
ShowsAlike calls t = (rest : Plains) → plain_before (cut_texts (node_in calls t)) rest ≡ plain_before (standing 0 [] t) rest

own_alike : (calls : List OuterCall) (t : ItemTree) → IsOwn t → ShowsAlike calls t
own_alike calls t h = λ rest. ap (λ (u : Tree). plain_before (cut_texts u) rest) (own_node_in calls t h) ∙ own_shows t rest

-- a node of the page or of a call, or one round such of which this is said
abbrev pub IsShownAlike : List OuterCall → ItemTree → Type 0
IsShownAlike calls t = IsOwnOrGiven t ⊎ (IsRoundNode t × ShowsAlike calls t)

pub as_piece : (calls : List OuterCall) (t : ItemTree) → IsShownAlike calls t → IsPieceNode t
as_piece calls t (inl g) = inl g
as_piece calls t (inr r) = inr r.0

all_as_pieces : (calls : List OuterCall) (ts : List ItemTree) → AllNodes (IsShownAlike calls) ts → AllPieceNodes ts
all_as_pieces calls [] h = tt
all_as_pieces calls (t ∷ ts) h = (as_piece calls t h.0, all_as_pieces calls ts h.1)

-- so each piece that is the page's
abbrev AllShowAlike : List OuterCall → List CallPiece → Type 0
AllShowAlike calls [] = Unit {0}
AllShowAlike calls (own t ∷ ps) = ShowsAlike calls t × AllShowAlike calls ps
AllShowAlike calls (given j t ts ∷ ps) = AllShowAlike calls ps

given_alike : (calls : List OuterCall) (j : ℕ) (t : ItemTree) (ps : List CallPiece) → AllShowAlike calls ps → AllShowAlike calls (given_before j t ps)
given_alike calls j t [] h = tt
given_alike calls j t (own u ∷ ps) h = h
given_alike calls j t (given k u us ∷ ps) h = by (j == k)
  where
    by : (v : Bool) → AllShowAlike calls (if v then given j t (u ∷ us) ∷ ps else given j t [] ∷ given k u us ∷ ps)
    by true = h
    by false = h

piece_alike : (calls : List OuterCall) (c : Option ℕ) (t : ItemTree) (ps : List CallPiece) → (c ≡ None → ShowsAlike calls t) → AllShowAlike calls ps
    → AllShowAlike calls (piece_before c t ps)
piece_alike calls None t ps f h = (f refl, h)
piece_alike calls (Some j) t ps f h = given_alike calls j t ps h

node_alike : (calls : List OuterCall) (t : ItemTree) → IsShownAlike calls t → first_of (tree_items t) None ≡ None → ShowsAlike calls t
node_alike calls t (inl (inl n)) e = own_alike calls t n
node_alike calls t (inl (inr g)) e = let no : Some g.0 ≡ None = sym (first_of_call g.0 t None g.1) ∙ e in absurd (cc)
node_alike calls t (inr r) e = r.1

all_alike : (calls : List OuterCall) (ts : List ItemTree) → AllNodes (IsShownAlike calls) ts → AllShowAlike calls (call_pieces ts)
all_alike calls [] h = tt
all_alike calls (t ∷ ts) h = piece_alike calls (first_of (tree_items t) None) t (call_pieces ts) (λ e. node_alike calls t h.0 e) (all_alike calls ts h.1)

pieces_shown : (calls : List OuterCall) (ps : List CallPiece) (rest : Plains) → ArePieces ps → AllShowAlike calls ps
    → plains_before (all_cut_texts (pieces_in_page calls ps)) rest ≡ trees_shown (trees_of ps) rest
pieces_shown calls [] rest h a = refl
pieces_shown calls (own t ∷ ps) rest h a =
    ap (plain_before (cut_texts (node_in calls t))) (pieces_shown calls ps rest h.2 a.1) ∙ a.0 (trees_shown (trees_of ps) rest)
pieces_shown calls (given j t ts ∷ ps) rest h a =
    ap (plain_before (cut_texts (group_of_call calls j (further t (forest ts))))) (pieces_shown calls ps rest h.2 a)
    ∙ group_shows calls j (t ∷ ts) (trees_shown (trees_of ps) rest) h.0
    ∙ sym (trees_append (t ∷ ts) (trees_of ps) rest)

-- ---- one by one

runs_shown : (rs : List (List Part)) (ps : List Part) (rest : Plains) → AreRuns one_leaf rs ps → AreTexts ps → trees_shown (map child rs) rest ≡ one_by_one ps rest
runs_shown [] ps rest h t = sym (ap (λ qs. one_by_one qs rest) h)
runs_shown (r ∷ rs) ps rest h t =
    let both : AreTexts (r ++ h.0) = subst AreTexts h.1 t in
    ap (plain_before (standing 0 [] (child r))) (runs_shown rs h.0 rest h.3 (texts_rest r h.0 both))
    ∙ run_shows 0 [] r h.0 (one_by_one h.0 rest) h.2 (texts_first r h.0 both)
    ∙ sym (ap (λ qs. one_by_one qs rest) h.1 ∙ shown_append r h.0 rest)

pub children_shown : (ps : List Part) (rest : Plains) → AreTexts ps → trees_shown (children ps) rest ≡ one_by_one ps rest
unfolding children
children_shown ps rest t = runs_shown (runs one_leaf ps) ps rest (runs_are one_leaf ps) t

pub shown_in_page : (calls : List OuterCall) (ps : List Part) (rest : Plains) → EachNode (IsShownAlike calls) ps → AreTexts ps
    → plains_before (all_cut_texts (pieces_in_page calls (call_pieces (children ps)))) rest ≡ one_by_one ps rest
shown_in_page calls ps rest h t =
    let ts : List ItemTree = children ps in
    let all : AllNodes (IsShownAlike calls) ts = children_of_each (IsShownAlike calls) (λ u g. inl g) ps h in
    pieces_shown calls (call_pieces ts) rest (all_pieces ts (all_as_pieces calls ts all)) (all_alike calls ts all)
    ∙ ap (λ (us : List ItemTree). trees_shown us rest) (all_trees ts)
    ∙ children_shown ps rest t

pub as_shown : (calls : List OuterCall) (ps : List Part) → AreOwnOrGiven ps → EachNode (IsShownAlike calls) ps
as_shown calls [] h = tt
as_shown calls (loose k o b ∷ ps) h = as_shown calls ps h
as_shown calls (node t ∷ ps) h = (inl h.0, as_shown calls ps h.1)

-- ---- the nodes of characters and nodes of one call

rest_by : (j : ℕ) (ps qs : List Part) → AreGivenBy j (ps ++ qs) → AreGivenBy j qs
rest_by j [] qs h = h
rest_by j (loose Text o b ∷ ps) qs h = rest_by j ps qs h.1
rest_by j (loose Sep o b ∷ ps) qs h = absurd h
rest_by j (node t ∷ ps) qs h = rest_by j ps qs h.1

held_by_call : (j : ℕ) (o : Option ℕ) (b : ℕ) (r others : List Part) → IsRun one_leaf (loose Text o b ∷ r) others → AreGivenBy j (r ++ others)
    → AreItemsOf j (held_parts r)
held_by_call j o b [] others run h = tt
held_by_call j o b (loose Text p c ∷ r) others run h = (h.0, held_by_call j p c r others run.1 h.1)
held_by_call j o b (loose Sep p c ∷ r) others run h = absurd h
held_by_call j o b (node x ∷ r) others run h = absurd (let no = run.0 in cc)

run_by_call : (j : ℕ) (r others : List Part) → IsRun one_leaf r others → AreGivenBy j (r ++ others) → IsOfCall j (child r)
run_by_call j [] others run h = absurd run
run_by_call j (loose Text o b ∷ r) others run h = record {
  first = char o b;
  others = held_parts r;
  is = append-nil (char o b ∷ held_parts r);
  of_call = (h.0, held_by_call j o b r others run h.1);
  no_body = refl;
  uncut = (refl, tt);
}
run_by_call j (loose Sep o b ∷ r) others run h = absurd h
run_by_call j (node x ∷ []) others run h = h.0
run_by_call j (node x ∷ p ∷ r) others run h = absurd (let no = run.0 in cc)

runs_by_call : (j : ℕ) (rs : List (List Part)) (ps : List Part) → AreRuns one_leaf rs ps → AreGivenBy j ps → AreOfCall j (map child rs)
runs_by_call j [] ps a h = tt
runs_by_call j (r ∷ rs) ps a h =
    let both : AreGivenBy j (r ++ a.0) = subst (AreGivenBy j) a.1 h in
    (run_by_call j r a.0 a.2 both, runs_by_call j rs a.0 a.3 (rest_by j r a.0 both))

pub by_call_children : (j : ℕ) (ps : List Part) → AreGivenBy j ps → AreOfCall j (children ps)
unfolding children
by_call_children j ps h = runs_by_call j (runs one_leaf ps) ps (runs_are one_leaf ps) h
