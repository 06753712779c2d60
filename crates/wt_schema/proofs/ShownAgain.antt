-- What is read of a group is written as the group was.
use Rattle.std.proofs.Common.{◌≡◌, ℕ, Bool, true, false, List, [], ◌∷◌, ◌++◌, refl, ap, ap₂, ◌∙◌, append_assoc, append-nil}
use Rattle.std.proofs.lemmas.Grind.{flat_map-append}
use Rattle.wt_tree.specs.declared.kind.Showing.{Showing}
use Rattle.wt_tree.specs.declared.kind.Showing.TheVariants.{Characters, Inside, Nothing, Element}
use Rattle.wt_tree.specs.Kinds.{showing, writing}
use Rattle.wt_tree.specs.Plain.{Face, Plain, text, element, Plains, ended, along, face, text_before, shown_before, plain_before, plains_before}
use Rattle.wt_tree.specs.Tree.{Label, Tree, tree, Trees, none, more}
use Rattle.wt_schema.specs.Escapes.{escape, escaped}
use Rattle.wt_schema.specs.Html.{attributes, element_by, face_attributes, plain_html, plains_html, group_element, group_part, group_parts, group_html}
use Rattle.wt_tree.specs.Elements.{span, as_elements, or_empty_span}
use Rattle.wt_schema.specs.GroupNodes.{elements_for, element_label, inner_node, inner_nodes, group_nodes, is_ended}

-- ---- what a plain view has as elements are elements

abbrev mutual
  pub HasElements : Plain → Type 0
  HasElements (text bs) = Unit {0}
  HasElements (element f qs) = (showing f.kind ≡ Element) × HaveElements qs

  pub HaveElements : Plains → Type 0
  HaveElements ended = Unit {0}
  HaveElements (along p ps) = HasElements p × HaveElements ps

text_has : (bs : List ℕ) (ps : Plains) → HaveElements ps → HaveElements (text_before bs ps)
text_has [] ps h = h
text_has (b ∷ bs) ended h = (tt, tt)
text_has (b ∷ bs) (along (text cs) ps) h = (tt, h.1)
text_has (b ∷ bs) (along (element f qs) ps) h = (tt, h)

shown_have : (s : Showing) (l : Label) (held : Plains → Plains) (rest : Plains) → showing l.kind ≡ s
    → ((ps : Plains) → HaveElements ps → HaveElements (held ps)) → HaveElements rest → HaveElements (shown_before s l held rest)
shown_have Characters l held rest e f h = text_has l.shown rest h
shown_have Inside l held rest e f h = f rest h
shown_have Nothing l held rest e f h = h
shown_have Element l held rest e f h = ((e, f ended tt), h)

mutual
  before_has : (t : Tree) (rest : Plains) → HaveElements rest → HaveElements (plain_before t rest)
  before_has (tree l ts) rest h = shown_have (showing l.kind) l (λ ps. plains_before ts ps) rest refl (λ ps g. all_before_have ts ps g) h

  pub all_before_have : (ts : Trees) (rest : Plains) → HaveElements rest → HaveElements (plains_before ts rest)
  all_before_have none rest h = h
  all_before_have (more t ts) rest h = before_has t (plains_before ts rest) (all_before_have ts rest h)

-- ---- inside elements

escaped_append : (bs cs : List ℕ) → escaped (bs ++ cs) ≡ escaped bs ++ escaped cs
escaped_append bs cs = flat_map-append escape bs cs

text_html : (bs : List ℕ) (ps : Plains) → plains_html (text_before bs ps) ≡ escaped bs ++ plains_html ps
text_html [] ps = refl
text_html (b ∷ bs) ended = refl
text_html (b ∷ bs) (along (text cs) ps) =
    ap (λ x. x ++ plains_html ps) (escaped_append (b ∷ bs) cs) ∙ append_assoc (escaped (b ∷ bs)) (escaped cs) (plains_html ps)
text_html (b ∷ bs) (along (element f qs) ps) = refl

abbrev element_again : Face → Plains → Plains
element_again f qs = plains_before (inner_nodes qs) ended

node_again : (f : Face) (qs rest : Plains) → showing f.kind ≡ Element
    → plain_before (inner_node (element f qs)) rest ≡ along (element (face (element_label f)) (element_again f qs)) rest
node_again f qs rest e = ap (λ s. shown_before s (element_label f) (λ ps. plains_before (inner_nodes qs) ps) rest) e

mutual
  inner_again : (p : Plain) (rest : Plains) → HasElements p → plains_html (plain_before (inner_node p) rest) ≡ plain_html p ++ plains_html rest
  inner_again (text bs) rest h = text_html bs rest
  inner_again (element f qs) rest h =
      ap plains_html (node_again f qs rest h.0)
      ∙ ap (λ x. element_by (writing f.kind) f.kind (attributes (face_attributes f)) x ++ plains_html rest) (inside_again qs h.1)

  inside_again : (qs : Plains) → HaveElements qs → plains_html (plains_before (inner_nodes qs) ended) ≡ plains_html qs
  inside_again ended h = refl
  inside_again (along p ps) h =
      inner_again p (plains_before (inner_nodes ps) ended) h.0 ∙ ap (λ x. plain_html p ++ x) (inside_again ps h.1)

-- ---- the elements of a group

abbrev AreElements : Plains → Type 0
AreElements ended = Unit {0}
AreElements (along (text bs) ps) = ⊥
AreElements (along (element f qs) ps) = (showing f.kind ≡ Element) × HaveElements qs × AreElements ps

are_elements : (ps : Plains) → HaveElements ps → AreElements (as_elements ps)
are_elements ended h = tt
are_elements (along (text bs) ps) h = (refl, (tt, tt), are_elements ps h.1)
are_elements (along (element f qs) ps) h = (h.0.0, h.0.1, are_elements ps h.1)

or_are_elements : (ps : Plains) → AreElements ps → AreElements (or_empty_span ps)
or_are_elements ended h = (refl, tt, tt)
or_are_elements (along p ps) h = h

parts_again : (es : Plains) (first : Bool) (k : ℕ) (l : Label) → AreElements es
    → group_parts first k l (plains_before (inner_nodes es) ended) ≡ group_parts first k l es
parts_again ended first k l h = refl
parts_again (along (text bs) ps) first k l h = absurd h
parts_again (along (element f qs) ps) first k l h =
    ap (group_parts first k l) (node_again f qs (plains_before (inner_nodes ps) ended) h.0)
    ∙ ap₂ (λ x y. group_element first k l f.kind (face_attributes f) x ++ y) (inside_again qs h.1) (parts_again ps false k l h.2)

-- the HTML of a group is that of its elements
tops_html : (ps : Plains) (first : Bool) (k : ℕ) (l : Label) → group_parts first k l (as_elements ps) ≡ group_parts first k l ps
tops_html ended first k l = refl
tops_html (along (text bs) ps) first k l =
    ap₂ (λ x y. group_element first k l span.kind (face_attributes span) x ++ y) (append-nil (escaped bs)) (tops_html ps false k l)
tops_html (along (element f qs) ps) first k l = ap (λ y. group_part first k l (element f qs) ++ y) (tops_html ps false k l)

or_html : (ps : Plains) (k : ℕ) (l : Label) → group_parts true k l (or_empty_span (as_elements ps)) ≡ group_html k l ps
or_html ended k l = append-nil _
or_html (along p ps) k l = tops_html (along p ps) true k l

pub elements_html : (ts : Trees) (k : ℕ) (l : Label) → group_parts true k l (elements_for ts) ≡ group_html k l (plains_before ts ended)
elements_html ts k l = or_html (plains_before ts ended) k l

-- some element is there
html_of_some : (es : Plains) (k : ℕ) (l : Label) → is_ended es ≡ false → group_html k l es ≡ group_parts true k l es
html_of_some ended k l e = absurd (cc e)
html_of_some (along p ps) k l e = refl

some_again : (es : Plains) → AreElements es → is_ended es ≡ false → is_ended (plains_before (inner_nodes es) ended) ≡ false
some_again ended h e = absurd (cc e)
some_again (along (text bs) ps) h e = absurd h
some_again (along (element f qs) ps) h e = ap is_ended (node_again f qs (plains_before (inner_nodes ps) ended) h.0)

pub or_some : (ps : Plains) → is_ended (or_empty_span ps) ≡ false
or_some ended = refl
or_some (along p ps) = refl

pub group_again : (ts : Trees) (k : ℕ) (l : Label)
    → group_html k l (plains_before (group_nodes ts) ended) ≡ group_html k l (plains_before ts ended)
group_again ts k l =
    let ps : Plains = plains_before ts ended in
    let es : Plains = elements_for ts in
    let h : AreElements es = or_are_elements (as_elements ps) (are_elements ps (all_before_have ts ended tt)) in
    html_of_some (plains_before (inner_nodes es) ended) k l (some_again es h (or_some (as_elements ps)))
    ∙ parts_again es true k l h
    ∙ elements_html ts k l

pub elements_some : (ts : Trees) → is_ended (elements_for ts) ≡ false
elements_some ts = or_some (as_elements (plains_before ts ended))
