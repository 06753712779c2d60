-- What stands in a line, and in `nowiki`: texts and nodes that may stand there.
use Rattle.std.proofs.Common.{◌≡◌, ℕ, zero, suc, ◌-◌, ◌<◌, ◌≤◌, Bool, true, false, Option, Some, None, List, [], ◌∷◌, ◌++◌, length, take, drop, map, IsUtf8, refl, sym, ap, ◌∙◌, subst, arith, append_assoc, append-nil, length-take, inl}
use Rattle.std.specs.Prelude.{◌||◌}
use Rattle.std.specs.List.{AllByRecursion, list_all, list_any}
use Rattle.std.proofs.lemmas.Str.{IsUtf8-take, IsUtf8-drop}
use Rattle.wt_span.specs.declared.form.ItemForm.{ItemForm}
use Rattle.wt_span.specs.declared.form.ItemForm.TheVariants as form
use Rattle.wt_span.specs.Entities.{entity_at}
use Rattle.wt_span.specs.Items.{Item, char, whole}
use Rattle.wt_span.specs.Runs.{runs, AreRuns}
use Rattle.wt_span.proofs.RunLaws.{runs_are}
use Rattle.wt_span.specs.Tags.{Tag, opening_tag}
use Rattle.wt_tree.specs.declared.kind.Kind.{Kind}
use Rattle.wt_tree.specs.declared.kind.Kind.TheVariants as kind
use Rattle.wt_lex.proofs.AllForms.{OptEntity, entity_fits}
use Rattle.wt_lex.proofs.Forms.{Fits}
use Rattle.wt_lex.proofs.TagForms.{OptTag, TagFits, opening_fits}
use Rattle.wt_lex.proofs.WholeEntities.{entity_front}
use Rattle.wt_lex.proofs.WholeTags.{raw_at}
use Rattle.wt_html_grammar.proofs.Steps.{if_true}
use Rattle.wt_tree.specs.declared.row.Holding.TheVariants.{Inlines}
use Rattle.wt_tree.specs.Kinds.{shape, admits, may_hold, spelling, texts_of_kind, is_anywhere}
use Rattle.wt_tree.specs.declared.row.Texts.{Texts}
use Rattle.wt_tree.specs.declared.row.Texts.TheVariants.{Separators, Page, Bordered, OwnCharacter}
use Rattle.wt_schema.specs.Rows.{holds_text}
use Rattle.wt_schema.specs.Written.{leaf_kind, may_stand, HasLeafKind}
use Rattle.wt_inline.specs.declared.loose.Loose.{Loose}
use Rattle.wt_inline.specs.declared.loose.Loose.TheVariants.{Text, Sep}
use Rattle.wt_inline.specs.RawTag.{len_of, opening_len, opening_of, inside_of, closing_of}
use Rattle.wt_inline.specs.Inside.{read_with, inside_items}
use Rattle.wt_inline.specs.ItemTree.{forest, tree_items}
use Rattle.wt_inline.specs.Parts.{Part, loose, node, held_parts, one_leaf, loose_leaf, child, children, form_leaf, inside_part, nowiki, whole_tree, parts}
use Rattle.wt_inline.proofs.HeldLaws.{sources_chars}
use Rattle.wt_inline.proofs.Insides.{entity_some, entity_within, entity_border}
use Rattle.wt_annotated.specs.Clean.{is_page}
use Rattle.wt_annotated.specs.Labels.{label_at}
use Rattle.wt_page_round_trip.proofs.TextItems.{continues, IfOther, IsSeam, AreTexts, before_low}
use Rattle.wt_page_round_trip.proofs.OfPage.{IsPageForm, IsPageItem, AreOfPage, chars_page, same_self}
use Rattle.wt_page_round_trip.proofs.OwnNodes.{is_own, AreOwn}
use Rattle.wt_page_round_trip.proofs.PageLines.{all_right}
use Rattle.wt_page_round_trip.proofs.PageNodes.{IsPartSeam, ArePageParts, IsLeafRun, leaf_run, children_nodes}
use Rattle.wt_page_round_trip.proofs.Parts.{IsWrittenNode, IsShownPart, children_shown}
use Rattle.wt_page_round_trip.proofs.Forms.{entity_node, mark_node, function_node, extension_node, opening_utf8, inside_utf8, closing_utf8}

-- ---- characters where text stands

-- each character may stand there
stands_byte : (parent : Kind) (b : ℕ) → holds_text parent ≡ true → may_stand parent (b ∷ []) ≡ true
stands_byte parent b h = if_true (holds_text parent) _ _ h

-- a text may stand there, also where separators may
text_has : (x : Texts) (j : Kind) → j ≡ kind.Text → HasLeafKind x j kind.Text
text_has Separators j e = sym e
text_has Page j e = sym e
text_has Bordered j e = inl refl
text_has OwnCharacter j e = sym e

pub text_part : (k : ℕ) (parent : Kind) (o : Option ℕ) (b : ℕ) → holds_text parent ≡ true → IsShownPart k parent (loose Text o b)
text_part k parent o b h = (text_has (texts_of_kind parent) (leaf_kind parent) (if_true (holds_text parent) _ _ h), stands_byte parent b h)

-- ---- the inside of `nowiki`

pub drop_none : (bs : List ℕ) → drop 0 bs ≡ bs
drop_none [] = refl
drop_none (b ∷ bs) = refl

pub first_low : (b : ℕ) (bs : List ℕ) (c n : ℕ) → entity_at (b ∷ bs) ≡ Some (c, n) → b < 128
first_low b bs c n e = let f : Fits (b ∷ bs) n × (b ≡ 38) = subst (OptEntity (b ∷ bs)) e (entity_fits (b ∷ bs)) in omega (arith, f.1)

-- an entity that begins some bytes, by itself
entity_form : (b : ℕ) (bs : List ℕ) (c m : ℕ) → IsUtf8 (b ∷ bs) → entity_at (b ∷ bs) ≡ Some (c, suc m) → IsPageForm (form.Entity c) (b ∷ take m bs)
entity_form b bs c m u e =
    let le : suc m ≤ suc (length bs) = entity_within (b ∷ bs) c (suc m) e in
    let n : length (take m bs) ≡ m = omega (arith, length-take m bs) in
    (entity_front (b ∷ bs) (c, suc m) e ∙ ap (λ k. Some (c, suc k)) (sym n), IsUtf8-take (b ∷ bs) (suc m) u (entity_border (b ∷ bs) c (suc m) u e))

-- each part holds an item of the page
abbrev IsOwnPart : Part → Type 0
IsOwnPart (loose j o b) = o ≡ None
IsOwnPart (node t) = (is_own t ≡ true) × (list_any is_page (tree_items t) ≡ true)

abbrev pub OwnIfNone : Option ℕ → List Part → Type 0
OwnIfNone None ps = AllByRecursion IsOwnPart ps
OwnIfNone (Some k) ps = Unit {0}

own_one : (o : Option ℕ) (b : ℕ) (ps : List Part) → OwnIfNone o ps → OwnIfNone o (loose Text o b ∷ ps)
own_one None b ps h = (refl, h)
own_one (Some k) b ps h = tt

own_whole : (o : Option ℕ) (f : ItemForm) (bs : List ℕ) (ps : List Part) → OwnIfNone o ps → OwnIfNone o (inside_part (whole f o bs) ∷ ps)
own_whole None f bs ps h = ((refl, refl), h)
own_whole (Some k) f bs ps h = tt

-- characters of one origin are one leaf
own_seam : (o : Option ℕ) (b : ℕ) (ps : List Part) → IsPartSeam Text o (loose Text o b ∷ ps)
own_seam o b ps = subst (λ (t : Bool). IfOther t (continues b ≡ false)) (sym (same_self o)) tt

-- what stands there behind these bytes, whose characters are all of this origin
record IsInside (k : ℕ) (o : Option ℕ) (run : List ℕ) (ps : List Part) : Type 0 where
  parts : ArePageParts run ps
  seam : IsPartSeam Text o ps
  shown : AllByRecursion (IsShownPart k kind.Nowiki) ps
  own : OwnIfNone o ps

none_inside : (k : ℕ) (o : Option ℕ) (run : List ℕ) → IsUtf8 run → IsInside k o run []
none_inside k None run u = record { parts = u; seam = tt; shown = tt; own = tt }
none_inside k (Some n) run u = record { parts = u; seam = tt; shown = tt; own = tt }

char_inside : (k : ℕ) (o : Option ℕ) (run : List ℕ) (b : ℕ) (ps : List Part) → IsInside k o (run ++ b ∷ []) ps → IsInside k o run (loose Text o b ∷ ps)
char_inside k o run b ps h = record {
  parts = (h.seam, h.parts);
  seam = own_seam o b ps;
  shown = (text_part k kind.Nowiki o b refl, h.shown);
  own = own_one o b ps h.own;
}

-- an entity or a character, and what follows
inside_first : (k : ℕ) → k < 200 → (o : Option ℕ) (e : Option (ℕ × ℕ)) (run : List ℕ) (b : ℕ) (bs : List ℕ) → entity_at (b ∷ bs) ≡ e → IsUtf8 (run ++ b ∷ bs)
    → ((n : ℕ) (r : List ℕ) → IsUtf8 (r ++ drop n bs) → IsInside k o r (map inside_part (inside_items o n bs)))
    → IsInside k o run (map inside_part (read_with o e b bs (λ n. inside_items o n bs)))
inside_first k small o None run b bs e u more =
    char_inside k o run b (map inside_part (inside_items o 0 bs))
    (more 0 (run ++ b ∷ []) (subst IsUtf8 (sym (append_assoc run (b ∷ []) bs) ∙ ap (λ x. (run ++ b ∷ []) ++ x) (sym (drop_none bs))) u))
inside_first k small o (Some (c, zero)) run b bs e u more = absurd (omega (arith, entity_some (b ∷ bs) c zero e))
inside_first k small o (Some (c, suc m)) run b bs e u more =
    let q : IsUtf8 run × IsUtf8 (b ∷ bs) = before_low run b (first_low b bs c (suc m) e) bs u in
    let z : suc m - 1 ≡ m = omega arith in
    let n : IsWrittenNode k kind.Nowiki (form_leaf (form.Entity c) o (b ∷ take m bs)) =
    entity_node k kind.Nowiki o c (b ∷ take m bs) small refl (entity_form b bs c m q.1 e) in
    let g : IsInside k o [] (map inside_part (inside_items o m bs)) =
    more m [] (IsUtf8-drop (b ∷ bs) (suc m) q.1 (entity_border (b ∷ bs) c (suc m) q.1 e)) in
    subst (λ i. IsInside k o run (map inside_part (whole (form.Entity c) o (b ∷ take i bs) ∷ inside_items o i bs))) (sym z) (record {
      parts = (q.0, n.element, n.page, g.parts);
      seam = tt;
      shown = (n.shown, g.shown);
      own = own_whole o (form.Entity c) (b ∷ take m bs) (map inside_part (inside_items o m bs)) g.own;
    })

inside_parts : (k : ℕ) → k < 200 → (o : Option ℕ) (n : ℕ) (run bs : List ℕ) → IsUtf8 (run ++ drop n bs)
    → IsInside k o run (map inside_part (inside_items o n bs))
inside_parts k small o zero run [] u = none_inside k o run (subst IsUtf8 (append-nil run) u)
inside_parts k small o (suc n) run [] u = none_inside k o run (subst IsUtf8 (append-nil run) u)
inside_parts k small o (suc n) run (b ∷ bs) u = inside_parts k small o n run bs u
inside_parts k small o zero run (b ∷ bs) u = inside_first k small o (entity_at (b ∷ bs)) run b bs refl u (λ n r v. inside_parts k small o n r bs v)

-- ---- what is the page's own in it

own_items : (bs : List ℕ) → list_all is_page (map (char None) bs ++ []) ≡ true
own_items [] = refl
own_items (b ∷ bs) = own_items bs

own_leaf : (j : Loose) (b : ℕ) (bs : List ℕ) → (is_own (loose_leaf j (map (char None) (b ∷ bs))) ≡ true)
    × (list_any is_page (tree_items (loose_leaf j (map (char None) (b ∷ bs)))) ≡ true)
own_leaf Text b bs = (own_items bs, refl)
own_leaf Sep b bs = (own_items bs, refl)

runs_own : (rs : List (List Part)) (ps : List Part) → AreRuns one_leaf rs ps → ArePageParts [] ps → AllByRecursion IsOwnPart ps → AreOwn (forest (map child rs))
runs_own [] ps h w a = tt
runs_own ([] ∷ rs) ps h w a = absurd h.2
runs_own ((node t ∷ p ∷ r) ∷ rs) ps h w a = absurd (let e = h.2.0 in cc)
runs_own ((node t ∷ []) ∷ rs) ps h w a =
    let v : ArePageParts [] (node t ∷ h.0) = subst (ArePageParts []) h.1 w in
    let c = subst (λ (qs : List Part). AllByRecursion IsOwnPart qs) h.1 a in
    (c.0.0, c.0.1, runs_own rs h.0 h.3 v.3 c.1)
runs_own ((loose j o b ∷ r) ∷ rs) ps h w a =
    let v : ArePageParts [] ((loose j o b ∷ r) ++ h.0) = subst (ArePageParts []) h.1 w in
    let c : AllByRecursion IsOwnPart ((loose j o b ∷ r) ++ h.0) = subst (λ (qs : List Part). AllByRecursion IsOwnPart qs) h.1 a in
    let q : IsLeafRun [] j o (loose j o b ∷ r) h.0 = leaf_run [] j o b r h.0 h.2 v in
    let items : held_parts (loose j o b ∷ r) ≡ map (char None) (q.first ∷ q.more) =
    q.items ∙ ap (λ (x : Option ℕ). map (char x) (q.first ∷ q.more)) c.0 in
    let l = own_leaf j q.first q.more in (
      subst (λ xs. is_own (loose_leaf j xs) ≡ true) (sym items) l.0,
      subst (λ xs. list_any is_page (tree_items (loose_leaf j xs)) ≡ true) (sym items) l.1,
      runs_own rs h.0 h.3 q.rest (all_right IsOwnPart (loose j o b ∷ r) h.0 c),
    )

children_own : (ps : List Part) → ArePageParts [] ps → AllByRecursion IsOwnPart ps → AreOwn (forest (children ps))
unfolding children
children_own ps w a = runs_own (runs one_leaf ps) ps (runs_are one_leaf ps) w a

-- an opening tag has bytes, so where it is the page's, the `nowiki` is
nowiki_own : (o : Option ℕ) (cs ds : List ℕ) (ps : List Part) → 0 < length cs → ArePageParts [] ps → OwnIfNone o ps
    → list_all is_page (map (char o) cs ++ map (char o) ds) ≡ true → AreOwn (forest (children ps))
nowiki_own None cs ds ps some w h e = children_own ps w h
nowiki_own (Some k) [] ds ps some w h e = absurd (omega (arith, some))
nowiki_own (Some k) (c ∷ cs) ds ps some w h e = absurd cc

tag_some : (bs : List ℕ) (t : Tag) → opening_tag bs ≡ Some t → (0 < t.len) × (t.len ≤ length bs)
tag_some bs t e = let f : TagFits bs t = subst (OptTag bs) e (opening_fits bs) in (f.some, f.within)

opening_some : (bs : List ℕ) → IsPageForm form.Nowiki bs → 0 < length (opening_of bs)
opening_some bs h =
    let q = raw_at _ (opening_tag bs) bs (length bs) h.0 in
    let f : (0 < q.0.len) × (q.0.len ≤ length bs) = tag_some bs q.0 q.1 in
    let e : opening_len bs ≡ q.0.len = ap len_of q.1 in
    omega (arith, f.0, f.1, e, length-take (opening_len bs) bs)

-- ---- `nowiki`

pub nowiki_node : (k : ℕ) (parent : Kind) (o : Option ℕ) (bs : List ℕ) → k < 199 → may_hold parent kind.Nowiki ≡ true → IsPageForm form.Nowiki bs
    → IsWrittenNode k parent (nowiki o bs)
unfolding label_at nowiki spelling
nowiki_node k parent o bs small e h =
    let ps : List Part = map inside_part (inside_items o 0 (inside_of bs)) in
    let w : IsInside (suc k) o [] ps = inside_parts (suc k) (omega arith) o 0 [] (inside_of bs)
    (subst IsUtf8 (sym (drop_none (inside_of bs))) (inside_utf8 bs h.1)) in
    record {
      shown = (
        omega arith,
        e,
        record {
          element = refl;
          level = refl;
          source = record {
            own = refl;
            opening = subst IsUtf8 (sym (sources_chars o (opening_of bs))) (opening_utf8 bs h.1);
            closing = subst IsUtf8 (sym (sources_chars o (closing_of bs))) (closing_utf8 bs h.1);
          };
          shown = refl;
          attrs = refl;
          origin = refl;
          mark = refl;
          mw = refl;
        },
        refl,
        (tt, children_shown (suc k) kind.Nowiki ps w.parts w.shown),
      );
      page = (
        chars_page o (opening_of bs) (opening_utf8 bs h.1),
        chars_page o (closing_of bs) (closing_utf8 bs h.1),
        refl,
        children_nodes ps w.parts,
        nowiki_own o (opening_of bs) (closing_of bs) ps (opening_some bs h) w.parts w.own,
      );
      element = refl;
    }

-- ---- a line

-- a node that holds text, and the elements of lines
pub record IsInlineParent (parent : Kind) : Type 0 where
  pub text : holds_text parent ≡ true
  pub elements : (k : Kind) → admits Inlines (shape k).class ≡ true → may_hold parent k ≡ true

pub form_node : (k : ℕ) (parent : Kind) (f : ItemForm) (o : Option ℕ) (bs : List ℕ) → k < 199 → IsInlineParent parent → IsPageItem (whole f o bs)
    → IsWrittenNode k parent (whole_tree f o bs)
form_node k parent form.Chars o bs small p h = absurd h.1
form_node k parent (form.Entity c) o bs small p h = entity_node k parent o c bs (omega arith) (p.elements kind.Entity refl) h.1
form_node k parent form.Nowiki o bs small p h = nowiki_node k parent o bs small (p.elements kind.Nowiki refl) h.1
form_node k parent form.Extension o bs small p h = extension_node k parent o bs (omega arith) (p.elements kind.Island refl) h.1
form_node k parent form.Function o bs small p h = function_node k parent o bs (omega arith) (p.elements kind.Island refl) h.1
form_node k parent form.Comment o bs small p h = mark_node k parent form.Comment o bs (omega arith) refl h
form_node k parent form.Include o bs small p h = mark_node k parent form.Include o bs (omega arith) refl h
form_node k parent form.Hidden o bs small p h = mark_node k parent form.Hidden o bs (omega arith) refl h
form_node k parent form.EmptyCall o bs small p h = mark_node k parent form.EmptyCall o bs (omega arith) refl h

-- a whole form as a node of a page, wherever it stands
pub or_right : (b c : Bool) → c ≡ true → (b || c) ≡ true
or_right true c e = refl
or_right false c e = e

pub bold_parent : IsInlineParent kind.Bold
bold_parent = record { text = refl; elements = λ k h. or_right (is_anywhere (shape k).class) _ h }

form_written : (f : ItemForm) (o : Option ℕ) (bs : List ℕ) → IsPageItem (whole f o bs) → IsWrittenNode 0 kind.Bold (whole_tree f o bs)
form_written f o bs h = form_node 0 kind.Bold f o bs (omega arith) bold_parent h

-- items as parts, whichever their characters are
part_seam : (j : Loose) (o : Option ℕ) (xs : List Item) → IsSeam o xs → IsPartSeam j o (parts j xs)
part_seam j o [] s = tt
part_seam Text o (char p b ∷ xs) s = s
part_seam Sep o (char p b ∷ xs) s = s
part_seam j o (whole f p bs ∷ xs) s = tt

pub page_parts : (j : Loose) (run : List ℕ) (xs : List Item) → AreTexts run xs → AreOfPage xs → ArePageParts run (parts j xs)
page_parts j run [] t h = t
page_parts j run (char o b ∷ xs) t h = (part_seam j o xs t.0, page_parts j (run ++ b ∷ []) xs t.1 h.1)
page_parts j run (whole f o bs ∷ xs) t h =
    let n : IsWrittenNode 0 kind.Bold (whole_tree f o bs) = form_written f o bs h.0 in
    (t.0, n.element, n.page, page_parts j [] xs t.1 h.1)

pub text_shown : (k : ℕ) (parent : Kind) → k < 199 → IsInlineParent parent → (xs : List Item) → AreOfPage xs
    → AllByRecursion (IsShownPart k parent) (parts Text xs)
text_shown k parent small p [] h = tt
text_shown k parent small p (char o b ∷ xs) h = (text_part k parent o b p.text, text_shown k parent small p xs h.1)
text_shown k parent small p (whole f o bs ∷ xs) h =
    let n : IsWrittenNode k parent (whole_tree f o bs) = form_node k parent f o bs small p h.0 in
    (n.shown, text_shown k parent small p xs h.1)
