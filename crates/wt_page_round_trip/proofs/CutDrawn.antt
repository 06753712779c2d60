-- Texts and separators cut anew in items, cells and captions: what was written but for that is written.
use Rattle.std.proofs.Common.{◌≡◌, ℕ, suc, ◌<◌, Bool, true, false, Option, List, [], ◌∷◌, ◌++◌, length, get_or, IsUtf8, refl, sym, ap, ap₂, ◌∙◌, subst, cond, arith, inl, inr, append_assoc, append-nil, length-append}
use Rattle.std.specs.Prelude.{◌&&◌, ◌||◌, not}
use Rattle.std.specs.Str.{IsCharBoundary}
use Rattle.std.proofs.Math.Seq.{get_or-append_seam, take-append_seam, drop-append_seam}
use Rattle.std.proofs.lemmas.Bool.Decides.{nat_tests}
use Rattle.std.proofs.lemmas.Str.{IsUtf8-nil, IsUtf8-append, IsUtf8-take, IsUtf8-drop, IsCharBoundary-before_ascii}
use Rattle.wt_html_grammar.proofs.Steps.{if_true, if_false}
use Rattle.wt_tree.specs.declared.kind.Kind.{Kind}
use Rattle.wt_tree.specs.declared.kind.Kind.TheVariants as kind
use Rattle.wt_tree.specs.declared.kind.Ranges.{Ranges}
use Rattle.wt_tree.specs.declared.row.Texts.{Texts}
use Rattle.wt_tree.specs.declared.row.Texts.TheVariants.{Separators, Page, Bordered, OwnCharacter}
use Rattle.wt_tree.specs.declared.row.Writing.{Writing}
use Rattle.wt_tree.specs.declared.row.Writing.TheVariants.{AsText, AsVoid, RoundCharacter, RoundChildren, AsSection, Unwritten}
use Rattle.wt_recut.specs.Cutting.{begins_with_text}
use Rattle.wt_tree.specs.Kinds.{writing, is_leaf, texts_of_kind, is_block, may_follow}
use Rattle.wt_tree.specs.Leaves.{text_leaf, sep_leaf}
use Rattle.wt_recut.specs.Recut.{is_break, is_blank, before_break, from_break, is_as_text, is_text, shows_block, is_border, leads_to_block, front_ranges, rest_ranges, joined_ranges, text_onto, joined_texts, from_start, front_of, rest_of, parts_before, text_before, cut_from, recut}
use Rattle.wt_recut.specs.Recutting.{is_empty}
use Rattle.wt_tree.specs.Tiling.{is_group}
use Rattle.wt_tree.specs.Tree.{Label, Tree, tree, Trees, none, more, label}
use Rattle.wt_recut.proofs.Cut.{all_parts, recut_again}
use Rattle.wt_schema.specs.Rows.{holds_page_text, holds_text}
use Rattle.wt_schema.specs.Written.{leaf_kind, HasLeafKind, may_stand, IsTextIn, IsWrittenGroup, NodeIsWritten, is_childless, joins, goes_behind, are_ordered, IsCutIn, WrittenIn, AllWrittenIn}
use Rattle.wt_annotated.specs.CutTexts.{cut_as, cut_texts, all_cut_texts}
use Rattle.wt_page_round_trip.proofs.DrawnTrees.{IsInOrder, IsUncutIn, AreUncutIn, group_writing, shows_by, goes_by}

-- ---- characters

-- a text in UTF-8 may be cut before a line break
cut_low : (r : List ℕ) (b : ℕ) (t : List ℕ) → b < 128 → IsUtf8 (r ++ b ∷ t) → IsUtf8 r × IsUtf8 (b ∷ t)
cut_low r b t low u =
    let e : get_or (r ++ b ∷ t) (length r) 0 ≡ b = get_or-append_seam r b t 0 in
    let c : IsCharBoundary (r ++ b ∷ t) (length r) =
    IsCharBoundary-before_ascii (r ++ b ∷ t) (length r) (omega (arith, length-append r (b ∷ t))) (omega arith) in (
      subst IsUtf8 (take-append_seam r (b ∷ t)) (IsUtf8-take (r ++ b ∷ t) (length r) u c),
      subst IsUtf8 (drop-append_seam r (b ∷ t)) (IsUtf8-drop (r ++ b ∷ t) (length r) u c),
    )

break_low : (b : ℕ) → is_break b ≡ true → b < 128
break_low b e = grind (arith, nat_tests)

halves_by : (v : Bool) (r : List ℕ) (b : ℕ) (bs : List ℕ) → is_break b ≡ v → IsUtf8 (r ++ b ∷ bs)
    → (IsUtf8 ((r ++ b ∷ []) ++ before_break bs) × IsUtf8 (from_break bs))
    → IsUtf8 (r ++ cond v [] (b ∷ before_break bs)) × IsUtf8 (cond v (b ∷ bs) (from_break bs))
halves_by true r b bs e u h = let q = cut_low r b bs (break_low b e) u in (subst IsUtf8 (sym (append-nil r)) q.0, q.1)
halves_by false r b bs e u h = (subst IsUtf8 (append_assoc r (b ∷ []) (before_break bs)) h.0, h.1)

halves_utf8 : (r own : List ℕ) → IsUtf8 (r ++ own) → IsUtf8 (r ++ before_break own) × IsUtf8 (from_break own)
halves_utf8 r [] u = (u, IsUtf8-nil)
halves_utf8 r (b ∷ bs) u = halves_by (is_break b) r b bs refl u (halves_utf8 (r ++ b ∷ []) bs (subst IsUtf8 (sym (append_assoc r (b ∷ []) bs)) u))

parts_utf8 : (x : Bool) (own : List ℕ) → IsUtf8 own → IsUtf8 (front_of x own) × IsUtf8 (rest_of x own)
parts_utf8 true own u = (IsUtf8-nil, u)
parts_utf8 false own u = halves_utf8 [] own u

-- ---- texts and separators where both may stand

-- any text may stand there, as a text or as a separator
stands_there : (q : Kind) (own : List ℕ) → texts_of_kind q ≡ Bordered → may_stand q own ≡ true
stands_there q own e = if_true (holds_text q) _ _ (ap holds_page_text e)

pub separator_in : (k : ℕ) (q : Kind) (r : Option Ranges) (own : List ℕ) → texts_of_kind q ≡ Bordered → IsUtf8 own → is_empty own ≡ false
    → WrittenIn k q (sep_leaf r own)
separator_in k q r own e u some = (
  record {
    kind = subst (λ (x : Texts). HasLeafKind x (leaf_kind q) kind.Sep) (sym e) (inr refl);
    characters = u;
    some = some;
    stands = stands_there q own e;
    shown = refl;
    id = refl;
    opening = refl;
    closing = refl;
    attrs = refl;
    origin = refl;
    mark = refl;
    mw = refl;
  },
  refl,
)

pub text_in : (k : ℕ) (q : Kind) (r : Option Ranges) (own : List ℕ) → texts_of_kind q ≡ Bordered → IsUtf8 own → is_empty own ≡ false
    → WrittenIn k q (text_leaf r own)
text_in k q r own e u some = (
  record {
    kind = subst (λ (x : Texts). HasLeafKind x (leaf_kind q) kind.Text) (sym e) (inl refl);
    characters = u;
    some = some;
    stands = stands_there q own e;
    shown = refl;
    id = refl;
    opening = refl;
    closing = refl;
    attrs = refl;
    origin = refl;
    mark = refl;
    mw = refl;
  },
  refl,
)

text_by : (w : Writing) (k : ℕ) (q : Kind) (l : Label) (childless : Bool) (inside group : Type 0) → is_as_text w ≡ true
    → NodeIsWritten w k q l childless inside group → IsTextIn q l
text_by AsText k q l childless inside group e h = h.0
text_by AsVoid k q l childless inside group e h = absurd cc
text_by RoundCharacter k q l childless inside group e h = absurd cc
text_by RoundChildren k q l childless inside group e h = absurd cc
text_by (AsSection n) k q l childless inside group e h = absurd h
text_by Unwritten k q l childless inside group e h = absurd cc

text_written : (k : ℕ) (q : Kind) (t : Tree) → is_text t ≡ true → WrittenIn k q t → IsTextIn q (label t)
text_written k q (tree l ts) e h = text_by (writing l.kind) k q l (is_childless ts) _ _ e h

-- there texts may follow one another
along_in : (k : ℕ) (q : Kind) (t : Tree) (ts : Trees) → texts_of_kind q ≡ Bordered → WrittenIn k q t → AllWrittenIn k q ts → AllWrittenIn k q (more t ts)
along_in k q t ts e h r = (h, ap (λ x. joins x (is_text t && begins_with_text ts)) e, r)

-- ---- joined

onto_by : (v : Bool) (k : ℕ) (q : Kind) (r s : Option Ranges) (b : ℕ) (bs : List ℕ) (t : Tree) (ts : Trees) → texts_of_kind q ≡ Bordered
    → is_text t ≡ v → IsUtf8 (b ∷ bs) → WrittenIn k q t → AllWrittenIn k q ts
    → AllWrittenIn k q (cond v (more (sep_leaf s ((b ∷ bs) ++ (label t).own)) ts) (more (sep_leaf r (b ∷ bs)) (more t ts)))
onto_by true k q r s b bs t ts e is u h rest =
    along_in k q (sep_leaf s ((b ∷ bs) ++ (label t).own)) ts e
    (separator_in k q s ((b ∷ bs) ++ (label t).own) e (IsUtf8-append (b ∷ bs) (label t).own u (text_written k q t is h).characters) refl) rest
onto_by false k q r s b bs t ts e is u h rest =
    along_in k q (sep_leaf r (b ∷ bs)) (more t ts) e (separator_in k q r (b ∷ bs) e u refl) (along_in k q t ts e h rest)

text_onto_in : (k : ℕ) (q : Kind) (r : Option Ranges) (own : List ℕ) (ts : Trees) → texts_of_kind q ≡ Bordered → IsUtf8 own → AllWrittenIn k q ts
    → AllWrittenIn k q (text_onto r own ts)
text_onto_in k q r [] ts e u h = h
text_onto_in k q r (b ∷ bs) none e u h = along_in k q (sep_leaf r (b ∷ bs)) none e (separator_in k q r (b ∷ bs) e u refl) tt
text_onto_in k q r (b ∷ bs) (more t ts) e u h = onto_by (is_text t) k q r (joined_ranges r (label t).ranges) b bs t ts e refl u h.0 h.2

joined_by : (v : Bool) (k : ℕ) (q : Kind) (t : Tree) (ts : Trees) → texts_of_kind q ≡ Bordered → is_text t ≡ v → WrittenIn k q t → AllWrittenIn k q ts
    → AllWrittenIn k q (cond v (text_onto (label t).ranges (label t).own ts) (more t ts))
joined_by true k q t ts e is h rest = text_onto_in k q (label t).ranges (label t).own ts e (text_written k q t is h).characters rest
joined_by false k q t ts e is h rest = along_in k q t ts e h rest

joined_in : (k : ℕ) (q : Kind) (ts : Trees) → texts_of_kind q ≡ Bordered → AllWrittenIn k q ts → AllWrittenIn k q (joined_texts ts)
joined_in k q none e h = tt
joined_in k q (more t ts) e h = joined_by (is_text t) k q t (joined_texts ts) e refl h.0 (joined_in k q ts e h.2)

-- ---- cut

whole_in : (v : Bool) (k : ℕ) (q : Kind) (r : Option Ranges) (own : List ℕ) (ts : Trees) → texts_of_kind q ≡ Bordered → IsUtf8 own → is_empty own ≡ false
    → AllWrittenIn k q ts → AllWrittenIn k q (more (cond v (sep_leaf r own) (text_leaf r own)) ts)
whole_in true k q r own ts e u some h = along_in k q (sep_leaf r own) ts e (separator_in k q r own e u some) h
whole_in false k q r own ts e u some h = along_in k q (text_leaf r own) ts e (text_in k q r own e u some) h

both_in : (v : Bool) (k : ℕ) (q : Kind) (p s r : Option Ranges) (c : ℕ) (cs : List ℕ) (b : ℕ) (bs : List ℕ) (ts : Trees) → texts_of_kind q ≡ Bordered
    → IsUtf8 (c ∷ cs) → IsUtf8 (b ∷ bs) → AllWrittenIn k q ts
    → AllWrittenIn k q (cond v (more (text_leaf p (c ∷ cs)) (more (sep_leaf s (b ∷ bs)) ts)) (more (text_leaf r ((c ∷ cs) ++ (b ∷ bs))) ts))
both_in true k q p s r c cs b bs ts e u w h =
    along_in k q (text_leaf p (c ∷ cs)) (more (sep_leaf s (b ∷ bs)) ts) e (text_in k q p (c ∷ cs) e u refl)
    (along_in k q (sep_leaf s (b ∷ bs)) ts e (separator_in k q s (b ∷ bs) e w refl) h)
both_in false k q p s r c cs b bs ts e u w h =
    along_in k q (text_leaf r ((c ∷ cs) ++ (b ∷ bs))) ts e (text_in k q r ((c ∷ cs) ++ (b ∷ bs)) e (IsUtf8-append (c ∷ cs) (b ∷ bs) u w) refl) h

parts_in : (k : ℕ) (q : Kind) (r : Option Ranges) (front rest : List ℕ) (ts : Trees) → texts_of_kind q ≡ Bordered → IsUtf8 front → IsUtf8 rest
    → is_empty (front ++ rest) ≡ false → AllWrittenIn k q ts → AllWrittenIn k q (parts_before r front rest ts)
parts_in k q r [] [] ts e u w some h = absurd cc
parts_in k q r (c ∷ cs) [] ts e u w some h = along_in k q (text_leaf r (c ∷ cs)) ts e (text_in k q r (c ∷ cs) e u refl) h
parts_in k q r [] (b ∷ bs) ts e u w some h = whole_in (is_blank (b ∷ bs)) k q r (b ∷ bs) ts e w refl h
parts_in k q r (c ∷ cs) (b ∷ bs) ts e u w some h =
    both_in (is_blank (b ∷ bs)) k q (front_ranges (length (c ∷ cs)) r) (rest_ranges (length (c ∷ cs)) r) r c cs b bs ts e u w h

cut_by : (v x : Bool) (k : ℕ) (q : Kind) (t : Tree) (ts : Trees) → texts_of_kind q ≡ Bordered → is_text t ≡ v → WrittenIn k q t → AllWrittenIn k q ts
    → AllWrittenIn k q (cond v (text_before x (label t).ranges (label t).own ts) (more t ts))
cut_by true x k q t ts e is h rest =
    let l : IsTextIn q (label t) = text_written k q t is h in
    let u = parts_utf8 x (label t).own l.characters in
    parts_in k q (label t).ranges (front_of x (label t).own) (rest_of x (label t).own) ts e u.0 u.1 (ap is_empty (all_parts x (label t).own) ∙ l.some) rest
cut_by false x k q t ts e is h rest = along_in k q t ts e h rest

cut_in : (behind : Bool) (k : ℕ) (q : Kind) (ts : Trees) → texts_of_kind q ≡ Bordered → AllWrittenIn k q ts → AllWrittenIn k q (cut_from behind ts)
cut_in behind k q none e h = tt
cut_in behind k q (more t ts) e h =
    cut_by (is_text t) (from_start behind (leads_to_block ts) (label t).own) k q t (cut_from (behind || is_border t) ts) e refl h.0
    (cut_in (behind || is_border t) k q ts e h.2)

-- ---- their order doesn't hang on texts

text_kind : (k : Kind) (b : Bool) → is_as_text (writing k) ≡ true → (is_group k ≡ false) × (is_block k ≡ false) × (may_follow b k ≡ true)
text_kind kind.Sep true e = (refl, refl, refl)
text_kind kind.Sep false e = (refl, refl, refl)
text_kind kind.Text true e = (refl, refl, refl)
text_kind kind.Text false e = (refl, refl, refl)
text_kind k b e = absurd cc

or_none : (b : Bool) → (b || false) ≡ b
or_none true = refl
or_none false = refl

text_skipped : (b : Bool) (t : Tree) (ts : Trees) → is_text t ≡ true → are_ordered b (more t ts) ≡ are_ordered b ts
text_skipped b (tree l us) ts e =
    let q = text_kind l.kind b e in
    let shows : shows_block (tree l us) ≡ false = if_false (is_group l.kind) _ _ q.0 ∙ q.1 in
    let goes : goes_behind b (tree l us) ≡ true = if_false (is_group l.kind) _ _ q.0 ∙ q.2 in
    ap₂ (λ x y. x && are_ordered (b || y) ts) goes shows ∙ ap (λ x. are_ordered x ts) (or_none b)

onto_ordered : (v b : Bool) (r s : Option Ranges) (own bs : List ℕ) (t : Tree) (ts : Trees) → is_text t ≡ v
    → are_ordered b (cond v (more (sep_leaf s bs) ts) (more (sep_leaf r own) (more t ts))) ≡ are_ordered b (more t ts)
onto_ordered true b r s own bs t ts e = text_skipped b (sep_leaf s bs) ts refl ∙ sym (text_skipped b t ts e)
onto_ordered false b r s own bs t ts e = text_skipped b (sep_leaf r own) (more t ts) refl

text_onto_ordered : (b : Bool) (r : Option Ranges) (own : List ℕ) (ts : Trees) → are_ordered b (text_onto r own ts) ≡ are_ordered b ts
text_onto_ordered b r [] ts = refl
text_onto_ordered b r (c ∷ cs) none = text_skipped b (sep_leaf r (c ∷ cs)) none refl
text_onto_ordered b r (c ∷ cs) (more t ts) =
    onto_ordered (is_text t) b r (joined_ranges r (label t).ranges) (c ∷ cs) ((c ∷ cs) ++ (label t).own) t ts refl

joined_order_by : (v b : Bool) (t : Tree) (ts : Trees) → is_text t ≡ v
    → are_ordered b (cond v (text_onto (label t).ranges (label t).own ts) (more t ts)) ≡ are_ordered b (more t ts)
joined_order_by true b t ts e = text_onto_ordered b (label t).ranges (label t).own ts ∙ sym (text_skipped b t ts e)
joined_order_by false b t ts e = refl

joined_ordered : (b : Bool) (ts : Trees) → are_ordered b (joined_texts ts) ≡ are_ordered b ts
joined_ordered b none = refl
joined_ordered b (more t ts) =
    joined_order_by (is_text t) b t (joined_texts ts) refl
    ∙ ap (λ x. goes_behind b t && x) (joined_ordered (b || shows_block t) ts)

whole_ordered : (v b : Bool) (r : Option Ranges) (own : List ℕ) (ts : Trees)
    → are_ordered b (more (cond v (sep_leaf r own) (text_leaf r own)) ts) ≡ are_ordered b ts
whole_ordered true b r own ts = text_skipped b (sep_leaf r own) ts refl
whole_ordered false b r own ts = text_skipped b (text_leaf r own) ts refl

both_ordered : (v b : Bool) (p s r : Option Ranges) (front rest own : List ℕ) (ts : Trees)
    → are_ordered b (cond v (more (text_leaf p front) (more (sep_leaf s rest) ts)) (more (text_leaf r own) ts)) ≡ are_ordered b ts
both_ordered true b p s r front rest own ts =
    text_skipped b (text_leaf p front) (more (sep_leaf s rest) ts) refl ∙ text_skipped b (sep_leaf s rest) ts refl
both_ordered false b p s r front rest own ts = text_skipped b (text_leaf r own) ts refl

parts_ordered : (b : Bool) (r : Option Ranges) (front rest : List ℕ) (ts : Trees) → are_ordered b (parts_before r front rest ts) ≡ are_ordered b ts
parts_ordered b r front [] ts = text_skipped b (text_leaf r front) ts refl
parts_ordered b r [] (c ∷ cs) ts = whole_ordered (is_blank (c ∷ cs)) b r (c ∷ cs) ts
parts_ordered b r (d ∷ ds) (c ∷ cs) ts =
    both_ordered (is_blank (c ∷ cs)) b (front_ranges (length (d ∷ ds)) r) (rest_ranges (length (d ∷ ds)) r) r (d ∷ ds) (c ∷ cs) ((d ∷ ds) ++ (c ∷ cs)) ts

cut_order_by : (v x b : Bool) (t : Tree) (ts : Trees) → is_text t ≡ v
    → are_ordered b (cond v (text_before x (label t).ranges (label t).own ts) (more t ts)) ≡ are_ordered b (more t ts)
cut_order_by true x b t ts e = parts_ordered b (label t).ranges (front_of x (label t).own) (rest_of x (label t).own) ts ∙ sym (text_skipped b t ts e)
cut_order_by false x b t ts e = refl

cut_ordered : (behind b : Bool) (ts : Trees) → are_ordered b (cut_from behind ts) ≡ are_ordered b ts
cut_ordered behind b none = refl
cut_ordered behind b (more t ts) =
    cut_order_by (is_text t) (from_start behind (leads_to_block ts) (label t).own) b t (cut_from (behind || is_border t) ts) refl
    ∙ ap (λ x. goes_behind b t && x) (cut_ordered (behind || is_border t) (b || shows_block t) ts)

recut_ordered : (b : Bool) (ts : Trees) → are_ordered b (recut ts) ≡ are_ordered b ts
recut_ordered b ts = cut_ordered false b (joined_texts ts) ∙ joined_ordered b ts

-- ---- all nodes

text_cut : (t : Tree) → is_text (cut_texts t) ≡ is_text t
text_cut (tree l us) = refl

begins_cut : (ts : Trees) → begins_with_text (all_cut_texts ts) ≡ begins_with_text ts
begins_cut none = refl
begins_cut (more t ts) = text_cut t

shows_cut : (t : Tree) → shows_block (cut_texts t) ≡ shows_block t
shows_cut (tree l us) = shows_by (is_group l.kind) (is_block l.kind) us (cut_as (texts_of_kind l.kind) (all_cut_texts us))

goes_cut : (b : Bool) (t : Tree) → goes_behind b (cut_texts t) ≡ goes_behind b t
goes_cut b (tree l us) = goes_by (is_group l.kind) b (may_follow b l.kind) us (cut_as (texts_of_kind l.kind) (all_cut_texts us))

ordered_cut : (b : Bool) (ts : Trees) → are_ordered b (all_cut_texts ts) ≡ are_ordered b ts
ordered_cut b none = refl
ordered_cut b (more t ts) =
    ap₂ (λ x y. x && are_ordered (b || y) (all_cut_texts ts)) (goes_cut b t) (shows_cut t)
    ∙ ap (λ x. goes_behind b t && x) (ordered_cut (b || shows_block t) ts)

childless_cut : (x : Texts) (ts : Trees) → is_childless ts ≡ true → is_childless (cut_as x (all_cut_texts ts)) ≡ true
childless_cut Separators none e = refl
childless_cut Page none e = refl
childless_cut Bordered none e = refl
childless_cut OwnCharacter none e = refl
childless_cut x (more t ts) e = absurd cc

leaf_cut : (leaf c d : Bool) → (c ≡ true → d ≡ true) → (not leaf || c) ≡ true → (not leaf || d) ≡ true
leaf_cut true c d f h = f h
leaf_cut false c d f h = refl

kept_cut : (w : Writing) (k : ℕ) (q : Kind) (l : Label) (ts us : Trees) (old new : Type 0) → is_group l.kind ≡ false
    → (is_childless ts ≡ true → is_childless us ≡ true) → (old → new) → NodeIsWritten w k q l (is_childless ts) old (IsWrittenGroup k q l ts)
    → NodeIsWritten w k q l (is_childless us) new (IsWrittenGroup k q l us)
kept_cut AsText k q l ts us old new g c f h = (h.0, c h.1)
kept_cut AsVoid k q l ts us old new g c f h = (h.0, h.1, h.2, leaf_cut (is_leaf l.kind) (is_childless ts) (is_childless us) c h.3, f h.4)
kept_cut RoundCharacter k q l ts us old new g c f h = (h.0, h.1, h.2, leaf_cut (is_leaf l.kind) (is_childless ts) (is_childless us) c h.3, f h.4)
kept_cut RoundChildren k q l ts us old new g c f h = (h.0, h.1, h.2, leaf_cut (is_leaf l.kind) (is_childless ts) (is_childless us) c h.3, f h.4)
kept_cut (AsSection n) k q l ts us old new g c f h = absurd h
kept_cut Unwritten k q l ts us old new g c f h = absurd (let x : false ≡ true = sym g ∙ ap is_group h.label.kind in cc)

node_cut : (g : Bool) (k : ℕ) (q : Kind) (l : Label) (ts us : Trees) (old : Type 0) → is_group l.kind ≡ g → (is_childless ts ≡ true → is_childless us ≡ true)
    → (old → IsCutIn (texts_of_kind l.kind) us × AllWrittenIn (suc k) l.kind us)
    → NodeIsWritten (writing l.kind) k q l (is_childless ts) old (IsWrittenGroup k q l ts)
    → NodeIsWritten (writing l.kind) k q l (is_childless (cond g ts us))
    (IsCutIn (texts_of_kind l.kind) (cond g ts us) × AllWrittenIn (suc k) l.kind (cond g ts us)) (IsWrittenGroup k q l (cond g ts us))
node_cut true k q l ts us old e c f h =
    let new : Type 0 = IsCutIn (texts_of_kind l.kind) ts × AllWrittenIn (suc k) l.kind ts in
    let i : IsWrittenGroup k q l ts = subst (λ (w : Writing). NodeIsWritten w k q l (is_childless ts) old (IsWrittenGroup k q l ts)) (group_writing l.kind e) h in
    subst (λ (w : Writing). NodeIsWritten w k q l (is_childless ts) new (IsWrittenGroup k q l ts)) (sym (group_writing l.kind e)) i
node_cut false k q l ts us old e c f h =
    kept_cut (writing l.kind) k q l ts us old (IsCutIn (texts_of_kind l.kind) us × AllWrittenIn (suc k) l.kind us) e c f h

as_cut : (x : Texts) (k : ℕ) (q : Kind) (ts : Trees) → texts_of_kind q ≡ x → IsInOrder x ts → AllWrittenIn k q (all_cut_texts ts)
    → IsCutIn x (cut_as x (all_cut_texts ts)) × AllWrittenIn k q (cut_as x (all_cut_texts ts))
as_cut Separators k q ts e o h = (tt, h)
as_cut Page k q ts e o h = (tt, h)
as_cut Bordered k q ts e o h = (
  (recut_again (all_cut_texts ts), recut_ordered false (all_cut_texts ts) ∙ ordered_cut false ts ∙ o),
  cut_in false k q (joined_texts (all_cut_texts ts)) e (joined_in k q (all_cut_texts ts) e h),
)
as_cut OwnCharacter k q ts e o h = (tt, h)

mutual
  pub uncut_written : (k : ℕ) (q : Kind) (t : Tree) → IsUncutIn k q t → WrittenIn k q (cut_texts t)
  uncut_written k q (tree l ts) h =
      node_cut (is_group l.kind) k q l ts (cut_as (texts_of_kind l.kind) (all_cut_texts ts))
      (IsInOrder (texts_of_kind l.kind) ts × AreUncutIn (suc k) l.kind ts) refl (childless_cut (texts_of_kind l.kind) ts)
      (λ i. as_cut (texts_of_kind l.kind) (suc k) l.kind ts refl i.0 (all_uncut_written (suc k) l.kind ts i.1)) h

  pub all_uncut_written : (k : ℕ) (q : Kind) (ts : Trees) → AreUncutIn k q ts → AllWrittenIn k q (all_cut_texts ts)
  all_uncut_written k q none h = tt
  all_uncut_written k q (more t ts) h = (
    uncut_written k q t h.0,
    ap₂ (λ x y. joins (texts_of_kind q) (x && y)) (text_cut t) (begins_cut ts) ∙ h.1,
    all_uncut_written k q ts h.2,
  )
