-- The nodes of what is sent with styles are among those of the page's block, but for what is put.
use Rattle.std.proofs.Common.{◌≡◌, ℕ, Bool, true, false, Option, Some, None, List, [], ◌∷◌, ◌++◌, length, refl, sym, ap, ◌∙◌, subst, append_assoc, inl, inr}
use Rattle.std.specs.Str.{chars}
use Rattle.wt_span.specs.Items.{Item}
use Rattle.wt_tree.specs.declared.edit_shape.InlineForm.{InlineForm}
use Rattle.wt_tree.specs.declared.edit_shape.InlineForm.TheVariants as inline
use Rattle.wt_tree.specs.EditShapes.{edit_shape}
use Rattle.wt_tree.specs.Tree.{Label, Tree, tree, Trees, none, more, label}
use Rattle.wt_guards.specs.declared.role.Role.TheVariants.{Toggle}
use Rattle.wt_guards.specs.declared.role.Stretch.{Stretch}
use Rattle.wt_guards.specs.Content.{ContentSign, Thing}
use Rattle.wt_guards.specs.Guards.{Setting}
use Rattle.wt_original.specs.Kept.{Kept, kept_nodes, kept_with}
use Rattle.wt_original.specs.Page.{Page, page_of}
use Rattle.wt_link_spelling.specs.Spelling.{children_of, opening_place, closing_place}
use Rattle.wt_beside_laws.specs.Led.{AreMarksLed}
use Rattle.wt_beside_laws.specs.Content.{AreKept}
use Rattle.wt_beside_laws.specs.Lines.{AreCharacters}
use Rattle.wt_beside_laws.specs.Nodes.{AllStayOpen}
use Rattle.wt_beside_laws.specs.PageBlocks.{IsBlockOfLines}
use Rattle.wt_beside_laws.specs.PageSigns.{signs_of_lines, AreFlatLines}
use Rattle.wt_beside_laws.specs.SentStyled.{text_then, found_then, or_nowiki, sent_by, sent_before, sent_content, AllNest}
use Rattle.wt_beside_laws.specs.Stood.{things}
use Rattle.wt_beside_laws.specs.Styled.{StyledContent, finished, sign, styled, mark_source, delimiter, signs_before, signs_in, IsStyledContent}
use Rattle.wt_beside_laws.specs.StyledBlocks.{numbers_by, numbers_of, all_numbers, found_thing, things_with, AreSomeOf}
use Rattle.wt_beside_laws.specs.StyledNodes.{IsPut, AreSomeAndPut, AreUrlsApart}
use Rattle.wt_beside_laws.proofs.SentNodes.{things_append}
use Rattle.wt_beside_laws.proofs.Styled.BlockNodes.{with_append}
use Rattle.wt_beside_laws.proofs.Styled.BlockStyles.{styled_nodes}
use Rattle.wt_beside_laws.proofs.Styled.Delimiters.{no_delimiter}
use Rattle.wt_beside_laws.proofs.Styled.SentStyles.{signs_joined, sent_nested}
use Rattle.wt_beside_laws.proofs.Styled.StyledNodes.{styled_content}

-- ---- some, and others that are put

some_behind : (ts ps qs : List Thing) → AreSomeAndPut ts qs → AreSomeAndPut ts (ps ++ qs)
some_behind [] ps qs h = tt
some_behind (t ∷ ts) ps qs h = elim h [
  | inl k ↦ inl (k.0, some_behind ts ps qs k.1)
  | inr k ↦ inr (ps ++ k.0, k.1, ap (λ (us : List Thing). ps ++ us) k.2 ∙ sym (append_assoc ps k.0 (t ∷ k.1)), k.3)
]

some_both : (ts us ps qs : List Thing) → AreSomeAndPut ts ps → AreSomeAndPut us qs → AreSomeAndPut (ts ++ us) (ps ++ qs)
some_both [] us ps qs h k = some_behind us ps qs k
some_both (t ∷ ts) us ps qs h k = elim h [
  | inl m ↦ inl (m.0, some_both ts us ps qs m.1 k)
  | inr m ↦ inr (m.0, m.1 ++ qs, ap (λ (xs : List Thing). xs ++ qs) m.2 ∙ append_assoc m.0 (t ∷ m.1) qs, some_both ts us m.1 qs m.3 k)
]

of_behind : {A : Type 0} (xs ys zs : List A) → AreSomeOf xs zs → AreSomeOf xs (ys ++ zs)
of_behind [] ys zs h = tt
of_behind {A} (x ∷ xs) ys zs h = (ys ++ h.0, h.1, ap (λ (us : List A). ys ++ us) h.2 ∙ sym (append_assoc ys h.0 (x ∷ h.1)), h.3)

of_left : (gone : List Thing) (t : Thing) (later qs : List Thing) → AreSomeOf (gone ++ t ∷ later) qs
    → (g : List Thing) × (l : List Thing) × (qs ≡ g ++ t ∷ l) × AreSomeOf later l
of_left [] t later qs h = h
of_left (o ∷ gone) t later qs h =
    let r = of_left gone t later h.1 h.3 in
    (h.0 ++ o ∷ r.0, r.1, h.2 ∙ ap (λ (us : List Thing). h.0 ++ o ∷ us) r.2 ∙ sym (append_assoc h.0 (o ∷ r.0) (t ∷ r.1)), r.3)

pub some_of : (ts ps qs : List Thing) → AreSomeAndPut ts ps → AreSomeOf ps qs → AreSomeAndPut ts qs
some_of [] ps qs h k = tt
some_of (t ∷ ts) ps qs h k = elim h [
  | inl m ↦ inl (m.0, some_of ts ps qs m.1 k)
  | inr m ↦
      let r = of_left m.0 t m.1 qs (subst (λ (xs : List Thing). AreSomeOf xs qs) m.2 k) in
      inr (r.0, r.1, r.2, some_of ts m.1 r.1 m.3 r.3)
]

-- ---- nodes by their numbers

found_among : (o : Option Kept) (before later ts : List Thing) → AreSomeOf ts later → AreSomeOf (found_thing o ++ ts) (before ++ (found_thing o ++ later))
found_among None before later ts h = of_behind ts before later h
found_among (Some k) before later ts h = (before, later, refl, h)

pub things_among : (ks : List Kept) (ms ns : List ℕ) → AreSomeOf ms ns → AreSomeOf (things_with ks ms) (things_with ks ns)
things_among ks [] ns h = tt
things_among ks (m ∷ ms) ns h =
    subst (AreSomeOf (found_thing (kept_with m ks) ++ things_with ks ms)) (sym (ap (things_with ks) h.2 ∙ with_append ks h.0 (m ∷ h.1)))
    (found_among (kept_with m ks) (things_with ks h.0) (things_with ks h.1) (things_with ks ms) (things_among ks ms h.1 h.3))

-- ---- what is sent

pub text_things : (cs : List ℕ) (t : StyledContent) → things (signs_in (text_then cs t)) ≡ things (signs_in t)
text_things [] t = refl
text_things (c ∷ cs) t = text_things cs t

nowiki_some : (t : StyledContent) (ps : List Thing) → AreSomeAndPut (things (signs_in t)) ps → AreSomeAndPut (things (signs_in (or_nowiki t))) ps
nowiki_some finished ps h = inl (inr (refl, refl), tt)
nowiki_some (sign c t) ps h = h
nowiki_some (styled kind opening closing inside t) ps h = h

abbrev mark_thing : Bool → Option Stretch → Thing
mark_thing kind place = record { role = Toggle; source = mark_source kind; place = place }

is_put : (kind : Bool) (place : Option Stretch) → IsPut (mark_thing kind place)
is_put kind place = inl (kind, refl, refl)

style_some : (kind : Bool) (opening closing : Option Stretch) (held t : StyledContent) (ps qs : List Thing) → AreSomeAndPut (things (signs_in held)) ps
    → AreSomeAndPut (things (signs_in t)) qs → AreSomeAndPut (things (signs_in (styled kind opening closing held t))) (ps ++ qs)
style_some kind opening closing held t ps qs h k =
    let last : List ContentSign = delimiter kind closing ∷ signs_in t in
    let e : things (signs_in held) ++ things last ≡ things (signs_before held last) = sym (things_append (signs_in held) last) ∙ ap things (signs_joined held [] last) in
    let later : AreSomeAndPut (mark_thing kind closing ∷ things (signs_in t)) qs = inl (is_put kind closing, k) in
    inl (
      is_put kind opening,
      subst (λ (xs : List Thing). AreSomeAndPut xs (ps ++ qs)) e
          (some_both (things (signs_in held)) (mark_thing kind closing ∷ things (signs_in t)) ps qs h later),
    )

found_some : (o : Option Kept) (t : StyledContent) (qs : List Thing) → AreSomeAndPut (things (signs_in t)) qs
    → AreSomeAndPut (things (signs_in (found_then o t))) ((found_thing o ++ []) ++ qs)
found_some None t qs k = k
found_some (Some x) t qs k = inr ([], qs, refl, k)

one_some : (w : InlineForm) (p : Page) (l : Label) (held t : StyledContent) (ns : List ℕ) (qs : List Thing) → AreSomeAndPut (things (signs_in held)) (things_with p.kept ns)
    → AreSomeAndPut (things (signs_in t)) qs
    → AreSomeAndPut (things (signs_in (sent_by w (kept_with l.id p.kept) l held t))) (things_with p.kept (numbers_by w l.id ns) ++ qs)
one_some inline.Nothing p l held t ns qs h k = k
one_some inline.Characters p l held t ns qs h k = subst (λ (xs : List Thing). AreSomeAndPut xs qs) (sym (text_things (chars l.shown) t)) k
one_some inline.Bold p l held t ns qs h k =
    let o : Option Kept = kept_with l.id p.kept in
    style_some true (opening_place o) (closing_place o) (or_nowiki held) t (things_with p.kept ns) qs (nowiki_some held (things_with p.kept ns) h) k
one_some inline.Italic p l held t ns qs h k =
    let o : Option Kept = kept_with l.id p.kept in
    style_some false (opening_place o) (closing_place o) (or_nowiki held) t (things_with p.kept ns) qs (nowiki_some held (things_with p.kept ns) h) k
one_some inline.Shown p l held t ns qs h k = found_some (kept_with l.id p.kept) t qs k
one_some inline.PageLink p l held t ns qs h k = found_some (kept_with l.id p.kept) t qs k
one_some inline.ExternalLink p l held t ns qs h k = found_some (kept_with l.id p.kept) t qs k
one_some inline.Tag p l held t ns qs h k = found_some (kept_with l.id p.kept) t qs k
one_some inline.Break p l held t ns qs h k = found_some (kept_with l.id p.kept) t qs k
one_some inline.AsItStood p l held t ns qs h k = found_some (kept_with l.id p.kept) t qs k

mutual
  tree_some : (p : Page) (t : Tree) (c : StyledContent) (qs : List Thing) → AreSomeAndPut (things (signs_in c)) qs
      → AreSomeAndPut (things (signs_in (sent_before p t c))) (things_with p.kept (numbers_of t) ++ qs)
  tree_some p (tree l ts) c qs k = one_some (edit_shape l.kind).inline p l (sent_content p ts) c (all_numbers ts) qs (sent_some p ts) k

  pub sent_some : (p : Page) (us : Trees) → AreSomeAndPut (things (signs_in (sent_content p us))) (things_with p.kept (all_numbers us))
  sent_some p none = tt
  sent_some p (more t us) =
      subst (AreSomeAndPut (things (signs_in (sent_before p t (sent_content p us))))) (sym (with_append p.kept (numbers_of t) (all_numbers us)))
      (tree_some p t (sent_content p us) (things_with p.kept (all_numbers us)) (sent_some p us))

-- ---- the content

pub sent_styles : (same : Tree → Tree → Bool) (s : Setting) (ls : List (List Item)) (block : Tree) (us : Trees) → s.within ≡ false → AreFlatLines ls
    → IsBlockOfLines ls block → AreKept (signs_of_lines (length (label block).opening) ls) → AllNest false false us
    → AreMarksLed s.place (signs_in (sent_content (page_of same block) us))
    → AreSomeOf (all_numbers us) (all_numbers (children_of block)) → AreCharacters (signs_in (sent_content (page_of same block) us))
    → AreUrlsApart (things (signs_in (sent_content (page_of same block) us))) → AllStayOpen s [] (signs_in (sent_content (page_of same block) us))
    → IsStyledContent s (sent_content (page_of same block) us)
sent_styles same s ls block us within flat b kept nest led some typed apart unclosed =
    let p : Page = page_of same block in
    let at : ℕ = length (label block).opening in
    let t : StyledContent = sent_content p us in
    let own : AreSomeOf (things_with (kept_nodes block) (all_numbers us)) (things_with (kept_nodes block) (all_numbers (children_of block))) =
    things_among (kept_nodes block) (all_numbers us) (all_numbers (children_of block)) some in
    let all : AreSomeAndPut (things (signs_in t)) (things (signs_of_lines at ls)) =
    some_of (things (signs_in t)) (things_with (kept_nodes block) (all_numbers us)) (things (signs_of_lines at ls)) (sent_some p us)
    (subst (AreSomeOf (things_with (kept_nodes block) (all_numbers us))) (styled_nodes ls block flat b) own) in
    styled_content s ls at t within flat kept typed (sent_nested p false false us (no_delimiter same block) nest) led all apart unclosed
