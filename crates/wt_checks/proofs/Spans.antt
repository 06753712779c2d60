-- The signs that are gathered at the top of a group are those of the elements that are written for it.
use Rattle.std.proofs.Common.{◌≡◌, ℕ, Bool, true, false, List, [], ◌∷◌, ◌++◌, map, refl, sym, ap, ◌∙◌, append_assoc, append-nil}
use Rattle.std.proofs.lemmas.List.{map-append}
use Rattle.wt_tree.specs.declared.kind.Showing.{Showing}
use Rattle.wt_tree.specs.declared.kind.Showing.TheVariants.{Characters, Inside, Nothing, Element}
use Rattle.wt_tree.specs.Kinds.{showing}
use Rattle.wt_tree.specs.Plain.{Face, face, Plain, text, element, Plains, ended, along, text_before, shown_before, plain_before, plains_before}
use Rattle.wt_tree.specs.Stream.{StreamToken, byte, bracket, opens, closes, signs_by, signs_of_all}
use Rattle.wt_tree.specs.Tree.{Label, Tree, tree, Trees, none, more}
use Rattle.wt_tree.proofs.Streams.{plain_signs, signs_of_plain, all_signs_before}
use Rattle.wt_checks.specs.Elements.{without_data, bare, all_bare, written_for, signs_in, signs_of}
use Rattle.wt_tree.specs.Elements.{span, as_elements, or_empty_span}
use Rattle.wt_checks.specs.Tokens.{bare_sign, all_bare_signs, close_span, text_in_span, open_after, top_by, open_by, top_open, all_top_open, top_signs, all_top_signs, span_if_none}
use Rattle.wt_checks.proofs.Elements.{bare_text}

-- ---- signs of plain views

mutual
  signs_plain : (ps : Plains) → signs_in ps ≡ plain_signs ps
  signs_plain ended = refl
  signs_plain (along p ps) = ap (λ ss. ss ++ signs_in ps) (sign_plain p) ∙ ap (λ ss. signs_of_plain p ++ ss) (signs_plain ps)

  sign_plain : (p : Plain) → signs_of p ≡ signs_of_plain p
  sign_plain (text bs) = refl
  sign_plain (element f qs) = ap (λ (ss : List StreamToken). bracket (opens f) ∷ (ss ++ (bracket closes ∷ []))) (signs_plain qs)

held_signs : (ts : Trees) → signs_in (plains_before ts ended) ≡ signs_of_all ts
held_signs ts = signs_plain (plains_before ts ended) ∙ all_signs_before ts ended ∙ append-nil (signs_of_all ts)

mutual
  bare_signs : (ps : Plains) → signs_in (all_bare ps) ≡ all_bare_signs (signs_in ps)
  bare_signs ended = refl
  bare_signs (along p ps) = ap (λ ss. ss ++ signs_in (all_bare ps)) (bare_sign_of p)
      ∙ ap (λ ss. all_bare_signs (signs_of p) ++ ss) (bare_signs ps) ∙ sym (map-append bare_sign (signs_of p) (signs_in ps))

  bare_sign_of : (p : Plain) → signs_of (bare p) ≡ all_bare_signs (signs_of p)
  bare_sign_of (text bs) = sym (bare_text bs)
  bare_sign_of (element f qs) =
      ap (λ (ss : List StreamToken). bracket (opens (without_data f)) ∷ (ss ++ (bracket closes ∷ []))) (bare_signs qs)
      ∙ ap (λ (ss : List StreamToken). bracket (opens (without_data f)) ∷ ss) (sym (map-append bare_sign (signs_in qs) (bracket closes ∷ [])))

bare_before : (bs : List ℕ) (ps : Plains) → all_bare (text_before bs ps) ≡ text_before bs (all_bare ps)
bare_before [] ps = refl
bare_before (b ∷ bs) ended = refl
bare_before (b ∷ bs) (along (text cs) ps) = refl
bare_before (b ∷ bs) (along (element f qs) ps) = refl

-- ---- what is still to come, where a `span` is open or not

abbrev coming : Bool → Plains → List StreamToken
coming false ps = signs_in (as_elements ps)
coming true ended = bracket closes ∷ []
coming true (along (text cs) qs) = map byte cs ++ (bracket closes ∷ signs_in (as_elements qs))
coming true (along (element f hs) qs) = bracket closes ∷ signs_in (as_elements (along (element f hs) qs))

-- a text opens a `span`
text_opens : (cs : List ℕ) (qs : Plains) → coming false (along (text cs) qs) ≡ bracket (opens span) ∷ coming true (along (text cs) qs)
text_opens cs qs =
    ap (λ (ss : List StreamToken). bracket (opens span) ∷ ((ss ++ (bracket closes ∷ [])) ++ signs_in (as_elements qs))) (append-nil (map byte cs))
    ∙ ap (λ (ss : List StreamToken). bracket (opens span) ∷ ss) (append_assoc (map byte cs) (bracket closes ∷ []) (signs_in (as_elements qs)))

text_true : (b : ℕ) (bs : List ℕ) (rest : Plains) → map byte (b ∷ bs) ++ coming true rest ≡ coming true (text_before (b ∷ bs) rest)
text_true b bs ended = refl
text_true b bs (along (text cs) qs) =
    sym (append_assoc (map byte (b ∷ bs)) (map byte cs) (bracket closes ∷ signs_in (as_elements qs)))
    ∙ ap (λ (ss : List StreamToken). ss ++ (bracket closes ∷ signs_in (as_elements qs))) (sym (map-append byte (b ∷ bs) cs))
text_true b bs (along (element f hs) qs) = refl

text_false : (b : ℕ) (bs : List ℕ) (rest : Plains) → coming false (text_before (b ∷ bs) rest) ≡ bracket (opens span) ∷ coming true (text_before (b ∷ bs) rest)
text_false b bs ended = text_opens (b ∷ bs) ended
text_false b bs (along (text cs) qs) = text_opens ((b ∷ bs) ++ cs) qs
text_false b bs (along (element f hs) qs) = text_opens (b ∷ bs) (along (element f hs) qs)

text_comes : (o : Bool) (bs : List ℕ) (rest : Plains) → text_in_span o bs ++ coming (open_after o bs) rest ≡ coming o (text_before bs rest)
text_comes o [] rest = refl
text_comes true (b ∷ bs) rest = text_true b bs rest
text_comes false (b ∷ bs) rest = ap (λ (ss : List StreamToken). bracket (opens span) ∷ ss) (text_true b bs rest) ∙ sym (text_false b bs rest)

element_comes : (o : Bool) (f : Face) (hs rest : Plains) → close_span o ++ (signs_of (element f hs) ++ coming false rest) ≡ coming o (along (element f hs) rest)
element_comes true f hs rest = refl
element_comes false f hs rest = refl

-- the signs of an element without its data
element_signs : (l : Label) (ts : Trees) → all_bare_signs (signs_by Element l (signs_of_all ts))
    ≡ signs_of (element (without_data (face l)) (all_bare (plains_before ts ended)))
element_signs l ts =
    ap (λ (ss : List StreamToken). bracket (opens (without_data (face l))) ∷ ss)
    (map-append bare_sign (signs_of_all ts) (bracket closes ∷ []) ∙ ap (λ (ss : List StreamToken). ss ++ (bracket closes ∷ []))
    (ap all_bare_signs (sym (held_signs ts)) ∙ sym (bare_signs (plains_before ts ended))))

tops_by : (s : Showing) (o : Bool) (l : Label) (ts : Trees) (rest : Plains) → all_top_signs o ts
    ++ coming (all_top_open o ts) (all_bare rest) ≡ coming o (all_bare (plains_before ts rest))
    → top_by s o l (signs_of_all ts) (all_top_signs o ts) ++ coming (open_by s o l (all_top_open o ts)) (all_bare rest)
    ≡ coming o (all_bare (shown_before s l (λ ps. plains_before ts ps) rest))
tops_by Characters o l ts rest h = text_comes o l.shown (all_bare rest) ∙ ap (coming o) (sym (bare_before l.shown rest))
tops_by Inside o l ts rest h = h
tops_by Nothing o l ts rest h = refl
tops_by Element o l ts rest h =
    append_assoc (close_span o) (all_bare_signs (signs_by Element l (signs_of_all ts))) (coming false (all_bare rest))
    ∙ ap (λ ss. close_span o ++ (ss ++ coming false (all_bare rest))) (element_signs l ts)
    ∙ element_comes o (without_data (face l)) (all_bare (plains_before ts ended)) (all_bare rest)

mutual
  tops : (o : Bool) (t : Tree) (rest : Plains) → top_signs o t ++ coming (top_open o t) (all_bare rest) ≡ coming o (all_bare (plain_before t rest))
  tops o (tree l ts) rest = tops_by (showing l.kind) o l ts rest (all_tops o ts rest)

  all_tops : (o : Bool) (ts : Trees) (rest : Plains) → all_top_signs o ts ++ coming (all_top_open o ts) (all_bare rest)
      ≡ coming o (all_bare (plains_before ts rest))
  all_tops o none rest = refl
  all_tops o (more t ts) rest =
      append_assoc (top_signs o t) (all_top_signs (top_open o t) ts) (coming (all_top_open (top_open o t) ts) (all_bare rest))
      ∙ ap (λ ss. top_signs o t ++ ss) (all_tops (top_open o t) ts rest) ∙ tops o t (plains_before ts rest)

end_closes : (o : Bool) → coming o ended ≡ close_span o
end_closes true = refl
end_closes false = refl

none_is : (ps : Plains) → span_if_none (signs_in (as_elements ps)) ≡ signs_in (or_empty_span (as_elements ps))
none_is ended = refl
none_is (along (text bs) ps) = refl
none_is (along (element f qs) ps) = refl

pub spans_are : (ts : Trees) → span_if_none (all_top_signs false ts ++ close_span (all_top_open false ts)) ≡ signs_in (written_for ts)
spans_are ts =
    ap span_if_none (ap (λ ss. all_top_signs false ts ++ ss) (sym (end_closes (all_top_open false ts))) ∙ all_tops false ts ended)
    ∙ none_is (all_bare (plains_before ts ended))
