-- What a group shows, written node after node, is the elements of its plain view.
use Rattle.std.proofs.Common.{◌≡◌, ℕ, Bool, true, false, List, [], ◌∷◌, ◌++◌, refl, sym, ap, ap₂, ◌∙◌, append_assoc, append-nil}
use Rattle.std.proofs.lemmas.Grind.{flat_map-append}
use Rattle.wt_tree.specs.declared.kind.Showing.{Showing}
use Rattle.wt_tree.specs.declared.kind.Showing.TheVariants.{Characters, Inside, Nothing, Element}
use Rattle.wt_tree.specs.Kinds.{showing, writing, fixed_attributes}
use Rattle.wt_tree.specs.Plain.{text, element, Plains, ended, along, text_before, shown_before, plain_before, plains_before}
use Rattle.wt_tree.specs.declared.node.Node.{Node, out-Node}
use Rattle.wt_tree.specs.View.{label_of, view, views}
use Rattle.wt_tree.proofs.Views.{view_out}
use Rattle.wt_tree.specs.Tree.{Label, Tree, tree, Trees, none, more}
use Rattle.wt_schema.specs.Escapes.{escape, escaped}
use Rattle.wt_schema.specs.Html.{attributes, element_by, plains_html, face_attributes, group_element, group_span, group_parts, group_html}
use Rattle.wt_html_out.specs.declared.groups.Progress.{Progress}
use Rattle.wt_html_out.specs.declared.groups.Progress.TheVariants as at
use Rattle.wt_html_out.specs.Shown.{shown_by, shown_html, shown_html_of_all, is_start, span_start, text_start, span_end, text_end, ending, text_part, after_text, part_by, after_by, after, after_all, part, parts}

-- ---- inside an element

text_html : (bs : List ℕ) (rest : Plains) → plains_html (text_before bs rest) ≡ escaped bs ++ plains_html rest
text_html [] rest = refl
text_html (b ∷ bs) ended = refl
text_html (b ∷ bs) (along (text cs) ps) =
    ap (λ x. x ++ plains_html ps) (flat_map-append escape (b ∷ bs) cs) ∙ append_assoc (escaped (b ∷ bs)) (escaped cs) (plains_html ps)
text_html (b ∷ bs) (along (element f qs) ps) = refl

shown_step : (s : Showing) (l : Label) (held : Plains → Plains) (inside : List ℕ) (rest : Plains)
    → ((ps : Plains) → plains_html (held ps) ≡ inside ++ plains_html ps)
    → plains_html (shown_before s l held rest) ≡ shown_by s l inside ++ plains_html rest
shown_step Characters l held inside rest h = text_html l.shown rest
shown_step Inside l held inside rest h = h rest
shown_step Nothing l held inside rest h = refl
shown_step Element l held inside rest h =
    ap (λ x. element_by (writing l.kind) l.kind (attributes (fixed_attributes l.kind ++ l.attrs)) x ++ plains_html rest) (h ended ∙ append-nil inside)

mutual
  shown_is : (t : Tree) (rest : Plains) → plains_html (plain_before t rest) ≡ shown_html t ++ plains_html rest
  shown_is (tree l ts) rest = shown_step (showing l.kind) l (λ ps. plains_before ts ps) (shown_html_of_all ts) rest (λ ps. all_shown ts ps)

  all_shown : (ts : Trees) (rest : Plains) → plains_html (plains_before ts rest) ≡ shown_html_of_all ts ++ plains_html rest
  all_shown none rest = refl
  all_shown (more t ts) rest =
      shown_is t (plains_before ts rest) ∙ ap (λ x. shown_html t ++ x) (all_shown ts rest)
      ∙ sym (append_assoc (shown_html t) (shown_html_of_all ts) (plains_html rest))

-- ---- at the top

-- what is still to be written, where the writer stands
abbrev go : Progress → ℕ → Label → Plains → List ℕ
go p k g ended = ending p k g
go p k g (along (text bs) ps) = text_start p k g ++ (escaped bs ++ go at.InText k g ps)
go p k g (along (element f qs) ps) = text_end p ++ (group_element (is_start p) k g f.kind (face_attributes f) (plains_html qs) ++ go at.Behind k g ps)

text_go : (bs : List ℕ) (p : Progress) (k : ℕ) (g : Label) (rest : Plains)
    → go p k g (text_before bs rest) ≡ text_part p k g bs ++ go (after_text p bs) k g rest
text_go [] p k g rest = refl
text_go (b ∷ bs) p k g ended = sym (append_assoc (text_start p k g) (escaped (b ∷ bs)) _)
text_go (b ∷ bs) p k g (along (text cs) ps) =
    ap (λ x. text_start p k g ++ (x ++ go at.InText k g ps)) (flat_map-append escape (b ∷ bs) cs)
    ∙ ap (λ x. text_start p k g ++ x) (append_assoc (escaped (b ∷ bs)) (escaped cs) (go at.InText k g ps))
    ∙ sym (append_assoc (text_start p k g) (escaped (b ∷ bs)) _)
text_go (b ∷ bs) p k g (along (element f qs) ps) = sym (append_assoc (text_start p k g) (escaped (b ∷ bs)) _)

part_step : (s : Showing) (l : Label) (held : Plains → Plains) (inside within : List ℕ) (p q : Progress) (k : ℕ) (g : Label) (rest : Plains)
    → ((ps : Plains) → plains_html (held ps) ≡ inside ++ plains_html ps)
    → ((ps : Plains) → go p k g (held ps) ≡ within ++ go q k g ps)
    → go p k g (shown_before s l held rest) ≡ part_by s p k g l within inside ++ go (after_by s p l q) k g rest
part_step Characters l held inside within p q k g rest h i = text_go l.shown p k g rest
part_step Inside l held inside within p q k g rest h i = i rest
part_step Nothing l held inside within p q k g rest h i = refl
part_step Element l held inside within p q k g rest h i =
    ap (λ x. text_end p ++ (group_element (is_start p) k g l.kind (fixed_attributes l.kind ++ l.attrs) x ++ go at.Behind k g rest)) (h ended
    ∙ append-nil inside)
    ∙ sym (append_assoc (text_end p) (group_element (is_start p) k g l.kind (fixed_attributes l.kind ++ l.attrs) inside) (go at.Behind k g rest))

mutual
  part_go : (t : Tree) (p : Progress) (k : ℕ) (g : Label) (rest : Plains)
      → go p k g (plain_before t rest) ≡ part p k g t ++ go (after p t) k g rest
  part_go (tree l ts) p k g rest =
      part_step (showing l.kind) l (λ ps. plains_before ts ps) (shown_html_of_all ts) (parts p k g ts) p (after_all p ts) k g rest
      (λ ps. all_shown ts ps) (λ ps. parts_go ts p k g ps)

  parts_go : (ts : Trees) (p : Progress) (k : ℕ) (g : Label) (rest : Plains)
      → go p k g (plains_before ts rest) ≡ parts p k g ts ++ go (after_all p ts) k g rest
  parts_go none p k g rest = refl
  parts_go (more t ts) p k g rest =
      part_go t p k g (plains_before ts rest) ∙ ap (λ x. part p k g t ++ x) (parts_go ts (after p t) k g rest)
      ∙ sym (append_assoc (part p k g t) (parts (after p t) k g ts) (go (after_all (after p t) ts) k g rest))

-- ---- in a plain view no text follows a text

abbrev begins_with_text : Plains → Bool
begins_with_text ended = false
begins_with_text (along (text bs) ps) = true
begins_with_text (along (element f qs) ps) = false

abbrev AreApart : Plains → Type 0
AreApart ended = Unit {0}
AreApart (along (text bs) ps) = (begins_with_text ps ≡ false) × AreApart ps
AreApart (along (element f qs) ps) = AreApart ps

text_apart : (bs : List ℕ) (ps : Plains) → AreApart ps → AreApart (text_before bs ps)
text_apart [] ps h = h
text_apart (b ∷ bs) ended h = (refl, tt)
text_apart (b ∷ bs) (along (text cs) ps) h = h
text_apart (b ∷ bs) (along (element f qs) ps) h = (refl, h)

shown_apart : (s : Showing) (l : Label) (held : Plains → Plains) (rest : Plains) → ((ps : Plains) → AreApart ps → AreApart (held ps))
    → AreApart rest → AreApart (shown_before s l held rest)
shown_apart Characters l held rest h i = text_apart l.shown rest i
shown_apart Inside l held rest h i = h rest i
shown_apart Nothing l held rest h i = i
shown_apart Element l held rest h i = i

mutual
  plain_apart : (t : Tree) (rest : Plains) → AreApart rest → AreApart (plain_before t rest)
  plain_apart (tree l ts) rest h = shown_apart (showing l.kind) l (λ ps. plains_before ts ps) rest (λ ps i. plains_apart ts ps i) h

  plains_apart : (ts : Trees) (rest : Plains) → AreApart rest → AreApart (plains_before ts rest)
  plains_apart none rest h = h
  plains_apart (more t ts) rest h = plain_apart t (plains_before ts rest) (plains_apart ts rest h)

-- ---- the elements of the plain view

text_ended : (k : ℕ) (g : Label) (ps : Plains) → begins_with_text ps ≡ false → go at.InText k g ps ≡ span_end ++ go at.Behind k g ps
text_ended k g ended e = sym (append-nil span_end)
text_ended k g (along (text bs) ps) e = absurd (cc e)
text_ended k g (along (element f qs) ps) e = refl

span_is : (first : Bool) (k : ℕ) (g : Label) (inside rest : List ℕ)
    → span_start first k g ++ (inside ++ (span_end ++ rest)) ≡ group_span first k g inside ++ rest
unfolding span_start span_end
span_is first k g inside rest = simp append_assoc

text_is : (first : Bool) (k : ℕ) (g : Label) (bs : List ℕ) (ps : Plains) → begins_with_text ps ≡ false
    → span_start first k g ++ (escaped bs ++ go at.InText k g ps) ≡ group_span first k g (escaped bs) ++ go at.Behind k g ps
text_is first k g bs ps e =
    ap (λ x. span_start first k g ++ (escaped bs ++ x)) (text_ended k g ps e) ∙ span_is first k g (escaped bs) (go at.Behind k g ps)

go_behind : (k : ℕ) (g : Label) (ps : Plains) → AreApart ps → go at.Behind k g ps ≡ group_parts false k g ps
go_behind k g ended h = refl
go_behind k g (along (text bs) ps) h =
    text_is false k g bs ps h.0 ∙ ap (λ x. group_span false k g (escaped bs) ++ x) (go_behind k g ps h.1)
go_behind k g (along (element f qs) ps) h = ap (λ x. group_element false k g f.kind (face_attributes f) (plains_html qs) ++ x) (go_behind k g ps h)

nothing_shown : (k : ℕ) (g : Label) → span_start true k g ++ span_end ≡ group_span true k g []
unfolding span_start span_end
nothing_shown k g = refl

go_start : (k : ℕ) (g : Label) (ps : Plains) → AreApart ps → go at.Start k g ps ≡ group_html k g ps
go_start k g ended h = nothing_shown k g
go_start k g (along (text bs) ps) h =
    text_is true k g bs ps h.0 ∙ ap (λ x. group_span true k g (escaped bs) ++ x) (go_behind k g ps h.1)
go_start k g (along (element f qs) ps) h = ap (λ x. group_element true k g f.kind (face_attributes f) (plains_html qs) ++ x) (go_behind k g ps h)

group_written : (k : ℕ) (g : Label) (ts : Trees)
    → parts at.Start k g ts ++ ending (after_all at.Start ts) k g ≡ group_html k g (plains_before ts ended)
group_written k g ts = sym (parts_go ts at.Start k g ended) ∙ go_start k g (plains_before ts ended) (plains_apart ts ended tt)

-- the parts of a group and its end, written behind others
pub group_pushed : (k : ℕ) (g : Label) (ts us : Trees) (old mid now : List ℕ) (p : Progress) → us ≡ ts → mid ≡ old ++ parts at.Start k g us
    → p ≡ after_all at.Start us → now ≡ mid ++ ending p k g → now ≡ old ++ group_html k g (plains_before ts ended)
group_pushed k g ts us old mid now p d e f h =
    h ∙ ap₂ (λ (xs : List ℕ) (q : Progress). xs ++ ending q k g) e f ∙ append_assoc old (parts at.Start k g us) (ending (after_all at.Start us) k g)
    ∙ ap (λ x. old ++ x) (group_written k g us) ∙ ap (λ vs. old ++ group_html k g (plains_before vs ended)) d

-- a node that is an element, by one level
part_level : (p : Progress) (k : ℕ) (g : Label) (n : Node) → part p k g (view n)
    ≡ part_by (showing (out-Node n).kind) p k g (label_of (out-Node n)) (parts p k g (views (out-Node n).children))
    (shown_html_of_all (views (out-Node n).children))
part_level p k g n = rw (view_out n)

pub part_element : (p : Progress) (k : ℕ) (g : Label) (n : Node) → showing (out-Node n).kind ≡ Element → part p k g (view n)
    ≡ text_end p ++ group_element (is_start p) k g (out-Node n).kind (fixed_attributes (out-Node n).kind ++ (label_of (out-Node n)).attrs)
    (shown_html_of_all (views (out-Node n).children))
part_element p k g n e =
    part_level p k g n
    ∙ ap (λ s. part_by s p k g (label_of (out-Node n)) (parts p k g (views (out-Node n).children)) (shown_html_of_all (views (out-Node n).children))) e
