-- What HTML is read as is as `ReadTree` says, element by element.
use Rattle.std.proofs.Common.{◌≡◌, ◌≢◌, ℕ, suc, ◌+◌, Bool, true, false, Option, Some, None, Result, Ok, Err, List, [], ◌∷◌, ◌++◌, codes, refl, sym, ap, ◌∙◌, subst}
use Rattle.std.specs.Prelude.{◌&&◌, not, if◌then◌else◌, IfOk, IfSome}
use Rattle.std.specs.List.{AllByRecursion}
use Rattle.std.specs.Option.{option_map}
use Rattle.std.specs.Str.{IsUtf8, bytes_eq}
use Rattle.wt_tree.specs.declared.kind.AttrName.TheVariants as attr
use Rattle.wt_tree.specs.declared.kind.Kind.{Kind}
use Rattle.wt_tree.specs.declared.kind.Kind.TheVariants as kind
use Rattle.wt_tree.specs.declared.node.DataMw.{DataMw}
use Rattle.wt_tree.specs.declared.row.Payload.TheVariants.{ExtensionTag}
use Rattle.wt_tree.specs.declared.row.Texts.{Texts}
use Rattle.wt_tree.specs.declared.row.Texts.TheVariants.{Separators, Page, Bordered, OwnCharacter}
use Rattle.wt_tree.specs.declared.row.Values.TheVariants as value
use Rattle.wt_tree.specs.Kinds.{own, order, spelling, attribute_name, fixed_attributes, showing, writing, is_section, texts_of_kind}
use Rattle.wt_tree.specs.Leaves.{text_leaf, sep_leaf}
use Rattle.wt_tree.specs.Opened.{opened_before, all_opened_before}
use Rattle.wt_tree.specs.Tiling.{is_group}
use Rattle.wt_tree.specs.Tree.{Label, Tree, tree, Trees, none, more, label}
use Rattle.wt_datamw.specs.declared.refusal.DataWhy.{DataWhy}
use Rattle.wt_datamw.specs.declared.sync.Sync.{Sync}
use Rattle.wt_datamw.specs.MwRead.{mw_told}
use Rattle.wt_html_grammar.specs.Markup.{Pair, Markup, Markups, text, node, empty, more as more_markup}
use Rattle.wt_schema.specs.declared.why.FitWhy.TheVariants as why
use Rattle.wt_schema.specs.declared.standing.Standing.{Standing}
use Rattle.wt_schema.specs.declared.standing.Standing.TheVariants as stands
use Rattle.wt_schema.specs.Attributes.{value_of, has}
use Rattle.wt_schema.specs.Data.{Data, no_data, both, sync_fits, mw_for, mw_fits, mw_given, no_data_if_good, inner_data, has_own, data_of, data_for, is_tag_of, is_extension_of}
use Rattle.wt_schema.specs.Fit.{Misfit, leaf_in, label_for, label_as, piece_as, elements, elements_of_all, texts_in, onto, onto_told, held_as, children_in, with_children, one_piece, text_fits, Position, within, row_as, behind_it, fits_place, is_inside, fit_told, fit_as, fit_row, fit_text, fit_node, fit_nodes, is_marked_root, elements_in, body_in, fit_body_told, body_data, fit_body, fit}
use Rattle.wt_schema.specs.Groups.{standing, is_dropped, pairs_for, Piece, single, begun, further, furthers, gathered}
use Rattle.wt_schema.specs.Read.{page, read, IsRead}
use Rattle.wt_schema.specs.Rows.{holds_page_text, holds_text, shows_text, own_told, attrs_for}
use Rattle.wt_schema.specs.Sections.{all_bared, opened_if_fit}
use Rattle.wt_schema.specs.Written.{value_at, is_extension_label}
use Rattle.wt_schema.proofs.OneReading.{reads}
use Rattle.wt_checks.specs.Tokens.{is_text}
use Rattle.wt_checks.specs.Unmarked.{is_compared}
use Rattle.wt_link_spelling.specs.Spelling.{children_of}
use Rattle.wt_inside_laws.proofs.ReadKinds.{IsReadAs, no_text, read_as}
use Rattle.wt_inside_laws.proofs.ReadMarkup.{IsGood, AreGood, stands_good, all_bared_good, elements_good}
use Rattle.wt_inside_laws.proofs.ReadRecuts.{TextLeaf, AreTexts, IsReadNode, ReadTree, AllReadTrees, text_read, sep_read, recut_read}

not_both : {A : Type 0} (b : Bool) → b ≡ true → b ≡ false → A
not_both b e f = absurd (cc)

-- ---- labels

abbrev data_with : Option Sync → Option DataMw → Data
data_with s m = record { sync = s; mw = m }

kind_of_label : (k : Kind) (ps : List Pair) (s : Option Sync) (m : Option DataMw) (shown : List ℕ) → (label_for k ps (data_with s m) shown).kind ≡ k
kind_of_label k ps None m shown = refl
kind_of_label k ps (Some s) m shown = refl

mw_of_label : (k : Kind) (ps : List Pair) (s : Option Sync) (m : Option DataMw) (shown : List ℕ) → (label_for k ps (data_with s m) shown).mw ≡ m
mw_of_label k ps None m shown = refl
mw_of_label k ps (Some s) m shown = refl

attrs_of_label : (k : Kind) (ps : List Pair) (s : Option Sync) (m : Option DataMw) (shown : List ℕ) → (label_for k ps (data_with s m) shown).attrs ≡ attrs_for k ps
attrs_of_label k ps None m shown = refl
attrs_of_label k ps (Some s) m shown = refl

kind_as : (s : Standing) (k : Kind) (ps : List Pair) (d : Data) (shown : List ℕ) → (label_as s k ps d shown).kind ≡ k
kind_as stands.Alone k ps d shown = kind_of_label k ps d.sync d.mw shown
kind_as stands.First k ps d shown = refl
kind_as stands.Further k ps d shown = kind_of_label k ps d.sync d.mw shown
kind_as stands.Astray k ps d shown = kind_of_label k ps d.sync d.mw shown

-- ---- data

-- an extension is told by the attribute that is kept
island_told : (o : Option (List ℕ)) → is_tag_of ExtensionTag (value_at (order attr.Typeof) (own_told (own attr.Typeof value.IslandType) o ++ [])) ≡ is_tag_of ExtensionTag o
island_told None = refl
island_told (Some v) = refl

extension_told : (k : Kind) (ps : List Pair) → is_extension_of k (value_at (order attr.Typeof) (fixed_attributes k ++ attrs_for k ps))
    ≡ is_extension_of k (value_of (attribute_name attr.Typeof) ps)
unfolding spelling attribute_name
extension_told kind.Island ps = island_told (value_of (codes "typeof") ps)
extension_told k ps = refl

abbrev IsPlain : Option (Option DataMw) → Type 0
IsPlain None = Unit {0}
IsPlain (Some None) = Unit {0}
IsPlain (Some (Some y)) = ⊥

both_plain : (o : Option (Option Sync)) (m : Option (Option DataMw)) (d : Data) → IsPlain m → both o m ≡ Some d → d.mw ≡ None
both_plain None None d h e = absurd (cc)
both_plain None (Some m) d h e = absurd (cc)
both_plain (Some s) None d h e = absurd (cc)
both_plain (Some s) (Some None) d h e = let x : data_with s None ≡ d = cc in ap (λ (q : Data). q.mw) (sym x)
both_plain (Some s) (Some (Some y)) d h e = absurd h

for_plain : (r : Result DataMw DataWhy) → IsPlain (mw_for false r)
for_plain (Err w) = tt
for_plain (Ok d) = tt

fits_plain : (x : Bool) (o : Option (List ℕ)) → x ≡ false → IsPlain (mw_fits x o)
fits_plain x None e = subst (λ (b : Bool). IsPlain (if b then None else Some None)) (sym e) tt
fits_plain x (Some v) e = subst (λ (b : Bool). IsPlain (mw_for b (mw_told v))) (sym e) (for_plain (mw_told v))

own_plain : (k : Kind) (ps : List Pair) (d : Data) → is_extension_of k (value_of (attribute_name attr.Typeof) ps) ≡ false → data_of k ps ≡ Some d → d.mw ≡ None
own_plain k ps d f = by_test (is_section k && has (codes "data-wt-edit") ps)
  where
    by_test : (b : Bool) → (if b then None else both (sync_fits k (value_of (codes "data-parsoid") ps))
        (mw_fits (is_extension_of k (value_of (attribute_name attr.Typeof) ps)) (value_of (codes "data-mw") ps))) ≡ Some d → d.mw ≡ None
    by_test true e = absurd (cc)
    by_test false e =
        both_plain (sync_fits k (value_of (codes "data-parsoid") ps))
        (mw_fits (is_extension_of k (value_of (attribute_name attr.Typeof) ps)) (value_of (codes "data-mw") ps)) d
        (fits_plain (is_extension_of k (value_of (attribute_name attr.Typeof) ps)) (value_of (codes "data-mw") ps) f) e

good_plain : (o : Option (Option DataMw)) (d : Data) → no_data_if_good o ≡ Some d → d.mw ≡ None
good_plain None d e = absurd (cc)
good_plain (Some m) d e = let x : no_data ≡ d = cc in ap (λ (q : Data). q.mw) (sym x)

inner_plain : (k : Kind) (ps : List Pair) (d : Data) → inner_data k ps ≡ Some d → d.mw ≡ None
inner_plain k ps d = by_test (has_own ps)
  where
    by_test : (b : Bool) → (if b then None
        else no_data_if_good (mw_given (is_extension_of k (value_of (attribute_name attr.Typeof) ps)) (value_of (codes "data-mw") ps))) ≡ Some d → d.mw ≡ None
    by_test true e = absurd (cc)
    by_test false e = good_plain (mw_given (is_extension_of k (value_of (attribute_name attr.Typeof) ps)) (value_of (codes "data-mw") ps)) d e

alone_told : (k : Kind) (ps : List Pair) (d : Data) (shown : List ℕ) → is_extension_label (label_for k ps d shown) ≡ false
    → is_extension_of k (value_of (attribute_name attr.Typeof) ps) ≡ false
alone_told k ps d shown f =
    sym (ap (λ (j : Kind). is_extension_of j (value_at (order attr.Typeof) (fixed_attributes j ++ (label_for k ps d shown).attrs))) (kind_of_label k ps d.sync d.mw shown)
    ∙ ap (λ xs. is_extension_of k (value_at (order attr.Typeof) (fixed_attributes k ++ xs))) (attrs_of_label k ps d.sync d.mw shown) ∙ extension_told k ps)
    ∙ f

label_plain : (x : Bool) (s : Standing) (k : Kind) (ps : List Pair) (d : Data) (shown : List ℕ) → data_for x s k ps ≡ Some d
    → is_extension_label (label_as s k ps d shown) ≡ false → (label_as s k ps d shown).mw ≡ None
label_plain true stands.Alone k ps d shown e f = mw_of_label k ps d.sync d.mw shown ∙ inner_plain k ps d e
label_plain false stands.Alone k ps d shown e f = mw_of_label k ps d.sync d.mw shown ∙ own_plain k ps d (alone_told k ps d shown f) e
label_plain x stands.First k ps d shown e f = refl
label_plain x stands.Further k ps d shown e f = mw_of_label k ps d.sync d.mw shown ∙ inner_plain k ps d e
label_plain x stands.Astray k ps d shown e f = absurd (cc)

-- ---- pieces in an element of this kind

abbrev PieceRead : Kind → Piece → Type 0
PieceRead j (single t) = ReadTree t × (texts_of_kind j ≡ Page → TextLeaf t)
PieceRead j (begun l t) = (l.kind ≡ kind.Group) × ReadTree t
PieceRead j (further t) = ReadTree t

abbrev PiecesRead : Kind → List Piece → Type 0
PiecesRead j xs = AllByRecursion (PieceRead j) xs

furthers_read : (j : Kind) (xs : List Piece) → PiecesRead j xs → AllReadTrees (furthers xs)
furthers_read j [] h = tt
furthers_read j (single t ∷ xs) h = tt
furthers_read j (begun l t ∷ xs) h = tt
furthers_read j (further t ∷ xs) h = (h.0, furthers_read j xs h.1)

group_node : (l : Label) (ts : Trees) → l.kind ≡ kind.Group → IsReadNode l ts
group_node l ts e = record {
  hidden = λ c. not_both (is_compared (showing l.kind)) (ap (λ (k : Kind). is_compared (showing k)) e) c;
  text = λ c. not_both (is_text (writing l.kind)) c (ap (λ (k : Kind). is_text (writing k)) e);
  unnumbered = λ c. not_both (is_text (writing l.kind)) c (ap (λ (k : Kind). is_text (writing k)) e);
  texts = λ g p. not_both (is_group l.kind) (ap is_group e) g;
  plain = λ g p. not_both (is_group l.kind) (ap is_group e) g;
}

gathered_read : (j : Kind) (xs : List Piece) → PiecesRead j xs → AllReadTrees (gathered xs)
gathered_read j [] h = tt
gathered_read j (single t ∷ xs) h = (h.0.0, gathered_read j xs h.1)
gathered_read j (begun l t ∷ xs) h =
    ((group_node l (more t (furthers xs)) h.0.0, (h.0.1, furthers_read j xs h.1)), gathered_read j xs h.1)
gathered_read j (further t ∷ xs) h = gathered_read j xs h.1

gathered_texts : (j : Kind) (xs : List Piece) → texts_of_kind j ≡ Page → PiecesRead j xs → AreTexts (gathered xs)
gathered_texts j [] p h = tt
gathered_texts j (single t ∷ xs) p h = (h.0.1 p, gathered_texts j xs p h.1)
gathered_texts j (begun l t ∷ xs) p h =
    ((λ c. not_both (is_text (writing l.kind)) c (ap (λ (k : Kind). is_text (writing k)) h.0.0)), gathered_texts j xs p h.1)
gathered_texts j (further t ∷ xs) p h = gathered_texts j xs p h.1

held_read : (w : Texts) (ts : Trees) → AllReadTrees ts → AllReadTrees (held_as w ts)
held_read Separators ts h = h
held_read Page ts h = h
held_read Bordered ts h = recut_read ts h
held_read OwnCharacter ts h = h

children_read : (inside : Bool) (k : Kind) (xs : List Piece) → PiecesRead k xs → AllReadTrees (children_in inside k xs)
children_read true k xs h = gathered_read k xs h
children_read false k xs h = held_read (texts_of_kind k) (gathered xs) (gathered_read k xs h)

children_texts : (inside : Bool) (k : Kind) (xs : List Piece) → texts_of_kind k ≡ Page → PiecesRead k xs → AreTexts (children_in inside k xs)
children_texts true k xs p h = gathered_texts k xs p h
children_texts false k xs p h = subst (λ (w : Texts). AreTexts (held_as w (gathered xs))) (sym p) (gathered_texts k xs p h)

held_none : (w : Texts) → held_as w none ≡ none
held_none Separators = refl
held_none Page = refl
held_none Bordered = refl
held_none OwnCharacter = refl

children_none : (inside : Bool) (k : Kind) (xs : List Piece) → xs ≡ [] → children_in inside k xs ≡ none
children_none true k xs e = ap gathered e
children_none false k xs e = ap (λ ys. held_as (texts_of_kind k) (gathered ys)) e ∙ held_none (texts_of_kind k)

-- ---- elements

piece_read : (j : Kind) (s : Standing) (ps : List Pair) (d : Data) (t : Tree) → ReadTree t → is_text (writing (label t).kind) ≡ false → PieceRead j (piece_as s ps d t)
piece_read j stands.Alone ps d t h e = (h, λ p c. not_both (is_text (writing (label t).kind)) c e)
piece_read j stands.First ps d t h e = (kind_of_label kind.Group ps d.sync d.mw [], h)
piece_read j stands.Further ps d t h e = h
piece_read j stands.Astray ps d t h e = (h, λ p c. not_both (is_text (writing (label t).kind)) c e)

abbrev FitRead : Kind → Result (Option Piece) Misfit → Type 0
FitRead j r = IfOk r (λ o. IfSome o (PieceRead j))

abbrev AllFitRead : Kind → Result (List Piece) Misfit → Type 0
AllFitRead j r = IfOk r (PiecesRead j)

abbrev held_list : Result (List Piece) Misfit → List Piece
held_list (Ok xs) = xs
held_list (Err e) = []

one_read : (j : Kind) (x inside : Bool) (name : List ℕ) (s : Standing) (k : Kind) (ps : List Pair) (d : Data) (shown : List ℕ) (held : Result (List Piece) Misfit)
    → IsReadAs name k → data_for x s k ps ≡ Some d → (is_compared (showing k) ≡ false → held ≡ Ok []) → AllFitRead k held
    → FitRead j (one_piece s ps d (with_children inside k (label_as s k ps d shown) held))
one_read j x inside name s k ps d shown (Err e) r a n h = tt
one_read j x inside name s k ps d shown (Ok xs) r a n h =
    let l : Label = label_as s k ps d shown in
    let is : l.kind ≡ k = kind_as s k ps d shown in
    let no : is_text (writing l.kind) ≡ false = ap (λ (q : Kind). is_text (writing q)) is ∙ no_text k r.element in
    piece_read j s ps d (tree l (children_in inside k xs)) (
      record {
        hidden = λ c. let z : xs ≡ [] = ap held_list (n (sym (ap (λ (q : Kind). is_compared (showing q)) is) ∙ c)) in children_none inside k xs z;
        text = λ c. not_both (is_text (writing l.kind)) c no;
        unnumbered = λ c. not_both (is_text (writing l.kind)) c no;
        texts = λ g p. children_texts inside k xs (sym (ap texts_of_kind is) ∙ p) h;
        plain = λ g f. label_plain x s k ps d shown a f;
      },
      children_read inside k xs h,
    ) no

told_read : (j : Kind) (x inside : Bool) (name : List ℕ) (n : ℕ) (s : Standing) (k : Kind) (ps : List Pair) (o : Option Data) (c : Markups)
    (held : Result (List Piece) Misfit) → IsReadAs name k → data_for x s k ps ≡ o → (is_compared (showing k) ≡ false → held ≡ Ok []) → AllFitRead k held
    → FitRead j (fit_told n inside s k ps o c held)
told_read j x inside name n s k ps None c held r a z h = tt
told_read j x inside name n s k ps (Some d) c held r a z h = by_test (text_fits k c)
  where
    by_test : (b : Bool) → FitRead j (if b then one_piece s ps d (with_children inside k (label_as s k ps d (texts_in c)) held) else Err (n, why.Text))
    by_test true = one_read j x inside name s k ps d (texts_in c) held r a z h
    by_test false = tt

row_read : (x : Position) (name : List ℕ) (n : ℕ) (s : Standing) (o : Option Kind) (ps : List Pair) (c : Markups) (held : Kind → Result (List Piece) Misfit)
    → IfSome o (IsReadAs name) → ((k : Kind) → IsReadAs name k → is_compared (showing k) ≡ false → held k ≡ Ok []) → ((k : Kind) → AllFitRead k (held k))
    → FitRead x.parent (fit_row n x s o ps c held)
row_read x name n s None ps c held r z h = tt
row_read x name n s (Some k) ps c held r z h = by_test (fits_place x.parent x.behind s k c)
  where
    by_test : (b : Bool) → FitRead x.parent (if b then fit_as n x s k ps c (held k) else Err (n, why.Place))
    by_test true = told_read x.parent x.inside (is_inside x s) name n s k ps (data_for x.inside s k ps) c (held k) r refl (z k r) (h k)
    by_test false = tt

-- ---- texts

page_holds : (j : Kind) → texts_of_kind j ≡ Page → holds_text j ≡ true
page_holds j e = ap holds_page_text e

leaf_read : (j : Kind) (shows holds : Bool) (bs : List ℕ) → bs ≢ [] → IsUtf8 bs → holds_text j ≡ holds
    → IfSome (option_map single (if shows then None else if holds then Some (text_leaf None bs) else Some (sep_leaf None bs))) (PieceRead j)
leaf_read j true holds bs n u e = tt
leaf_read j false true bs n u e = (text_read None bs, λ p c. record { kind = refl; id = refl; mark = refl; some = n; utf8 = u })
leaf_read j false false bs n u e = (sep_read None bs, λ p c. not_both (holds_text j) (page_holds j p) e)

text_fit : (x : Position) (bs : List ℕ) (ts : Markups) → bs ≢ [] → IsUtf8 bs → IfSome (fit_text x bs ts) (PieceRead x.parent)
text_fit x bs ts n u = by_test (is_dropped x.group bs ts)
  where
    by_test : (b : Bool) → IfSome (if b then None else option_map single (leaf_in x.parent bs)) (PieceRead x.parent)
    by_test true = tt
    by_test false = leaf_read x.parent (shows_text x.parent) (holds_text x.parent) bs n u refl

-- ---- all

onto_pieces : (j : Kind) (x : Piece) (r : Result (List Piece) Misfit) → PieceRead j x → AllFitRead j r → AllFitRead j (onto x r)
onto_pieces j x (Ok xs) h g = (h, g)
onto_pieces j x (Err e) h g = tt

told_pieces : (j : Kind) (o : Result (Option Piece) Misfit) (r : Result (List Piece) Misfit) → FitRead j o → AllFitRead j r → AllFitRead j (onto_told o r)
told_pieces j (Ok None) r h g = g
told_pieces j (Ok (Some x)) r h g = onto_pieces j x r h g
told_pieces j (Err e) r h g = tt

mutual
  node_read : (t : Markup) (ts : Markups) (n : ℕ) (x : Position) → IsGood t → FitRead x.parent (fit_node n x t ts)
  node_read (text bs) ts n x g = text_fit x bs ts g.0 g.1
  node_read (node name ps c) ts n x g =
      let s = standing x.group ps in
      row_read x name n s (row_as s name ps) ps c (λ k. fit_nodes (suc n) (within k (is_inside x s)) c) (read_as name (pairs_for s ps))
      (λ k r z. ap (fit_nodes (suc n) (within k (is_inside x s))) (g.0 (r.void z))) (λ k. nodes_read c (suc n) (within k (is_inside x s)) g.1)

  nodes_read : (ts : Markups) (n : ℕ) (x : Position) → AreGood ts → AllFitRead x.parent (fit_nodes n x ts)
  nodes_read empty n x g = tt
  nodes_read (more_markup t ts) n x g =
      let m = n + elements t in
      told_pieces x.parent (fit_node n x t ts) (fit_nodes m (behind_it x t ts) ts) (node_read t ts n x g.0) (nodes_read ts m (behind_it x t ts) g.1)

-- ---- sections are opened

mutual
  opened_read : (t : Tree) (rest : Trees) → ReadTree t → AllReadTrees rest → AllReadTrees (opened_before t rest)
  opened_read (tree l ts) rest h g = by_section (is_section l.kind) (all_opened_read ts rest h.1 g)
    where
      by_section : (b : Bool) → AllReadTrees (all_opened_before ts rest) → AllReadTrees (if b then all_opened_before ts rest else more (tree l ts) rest)
      by_section true r = r
      by_section false r = (h, g)

  all_opened_read : (ts rest : Trees) → AllReadTrees ts → AllReadTrees rest → AllReadTrees (all_opened_before ts rest)
  all_opened_read none rest h g = g
  all_opened_read (more t ts) rest h g = opened_read t (all_opened_before ts rest) h.0 (all_opened_read ts rest h.1 g)

-- ---- the body

abbrev BodyRead : Tree → Type 0
BodyRead t = ((label t).mw ≡ None) × AllReadTrees (children_of t)

body_plain : (ps : List Pair) (d : Data) → body_data ps ≡ Some d → d.mw ≡ None
body_plain ps d = by_test (has (codes "about") ps && not (has (codes "data-mw") ps))
  where
    by_test : (b : Bool) → (if b then None else data_of kind.Body ps) ≡ Some d → d.mw ≡ None
    by_test true e = absurd (cc)
    by_test false e = own_plain kind.Body ps d refl e

held_body : (ps : List Pair) (d : Data) (shown : List ℕ) (held : Result (List Piece) Misfit) → d.mw ≡ None → AllFitRead kind.Body held
    → IfOk (opened_if_fit (with_children false kind.Body (label_for kind.Body ps d shown) held)) BodyRead
held_body ps d shown (Err e) m h = tt
held_body ps d shown (Ok xs) m h =
    (mw_of_label kind.Body ps d.sync d.mw shown ∙ m, all_opened_read (gathered xs) none (gathered_read kind.Body xs h) tt)

told_body : (n : ℕ) (ps : List Pair) (o : Option Data) (c : Markups) (held : Result (List Piece) Misfit) → ((d : Data) → o ≡ Some d → d.mw ≡ None)
    → AllFitRead kind.Body held → IfOk (opened_if_fit (fit_body_told n ps o c held)) BodyRead
told_body n ps None c held m h = tt
told_body n ps (Some d) c held m h = by_test (text_fits kind.Body c)
  where
    by_test : (b : Bool)
        → IfOk (opened_if_fit (if b then with_children false kind.Body (label_for kind.Body ps d (texts_in c)) held else Err (n, why.Text))) BodyRead
    by_test true = held_body ps d (texts_in c) held (m d refl) h
    by_test false = tt

found_body : (n : ℕ) (ps : List Pair) (c : Markups) (b : Bool) → AreGood c
    → IfOk (fit_body (if b then Some (record { number = n; attributes = ps; contents = all_bared c }) else None)) BodyRead
found_body n ps c true g =
    told_body n ps (body_data ps) (all_bared c) (fit_nodes (suc n) (within kind.Body false) (all_bared c)) (body_plain ps)
    (nodes_read (all_bared c) (suc n) (within kind.Body false) (all_bared_good c g))
found_body n ps c false g = tt

body_among : (ts : Markups) → AreGood ts → IfOk (fit_body (body_in ts)) BodyRead
body_among empty g = tt
body_among (more_markup (text bs) ts) g = tt
body_among (more_markup (node name ps c) empty) g = found_body 2 ps c (bytes_eq name (codes "body")) g.0.1
body_among (more_markup (node name ps c) (more_markup (text bs) ts)) g = tt
body_among (more_markup (node head hs hc) (more_markup (node name ps c) empty)) g =
    found_body (3 + elements_of_all hc) ps c (bytes_eq head (codes "head") && bytes_eq name (codes "body")) g.1.0.1
body_among (more_markup (node head hs hc) (more_markup (node name ps c) (more_markup t ts))) g = tt

body_found : (m : Markup) → IsGood m → IfOk (fit m) BodyRead
body_found (text bs) g = tt
body_found (node name ps c) g = by_test (bytes_eq name (codes "html") && not (is_marked_root ps))
  where
    by_test : (b : Bool) → IfOk (fit_body (if b then body_in (elements_in c) else None)) BodyRead
    by_test true = body_among (elements_in c) (elements_good c g.1)
    by_test false = tt

pub read_body : (bytes : List ℕ) (t : Tree) (u : Option ℕ) → read bytes ≡ page t u → ((label t).mw ≡ None) × AllReadTrees (children_of t)
read_body bytes t u e =
    let h : IsRead bytes (page t u) = subst (IsRead bytes) e (reads bytes) in
    subst (λ (r : Result Tree Misfit). IfOk r BodyRead) h.2 (body_found h.0 (stands_good bytes h.0 h.1))
