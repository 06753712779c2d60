-- Each text and each value.
use Rattle.std.proofs.Common.{◌≡◌, ◌↔◌, ℕ, Bool, true, false, List, [], ◌∷◌, ◌++◌, map, refl}
use Rattle.std.specs.Prelude.{◌&&◌}
use Rattle.std.specs.List.{AllByRecursion}
use Rattle.std.specs.Str.{is_utf8}
use Rattle.wt_html_grammar.specs.Markup.{Pair, Markup, Markups, text, node, empty, more}
use Rattle.wt_html_nodes.specs.Texts.{are_utf8_values, is_utf8_markup, are_utf8_markups}
use Rattle.wt_page_laws.specs.Occurring.{texts_of, texts_of_all}

abbrev Texts : List (List ℕ) → Type 0
Texts bss = AllByRecursion (λ (bs : List ℕ). is_utf8 bs ≡ true) bss

both : (x y : Bool) → (x && y) ≡ true → (x ≡ true) × (y ≡ true)
both true true e = (refl, refl)
both true false e = cc
both false true e = cc
both false false e = cc

join : (xs ys : List (List ℕ)) → Texts xs → Texts ys → Texts (xs ++ ys)
join [] ys h g = g
join (x ∷ xs) ys h g = (h.0, join xs ys h.1 g)

part : (xs ys : List (List ℕ)) → Texts (xs ++ ys) → Texts xs × Texts ys
part [] ys h = (tt, h)
part (x ∷ xs) ys h = let p = part xs ys h.1 in ((h.0, p.0), p.1)

values : (ps : List Pair) → are_utf8_values ps ≡ true → Texts (map (λ p. p.1) ps)
values [] e = tt
values (p ∷ ps) e = let h = both (is_utf8 p.1) (are_utf8_values ps) e in (h.0, values ps h.1)

values_back : (ps : List Pair) → Texts (map (λ p. p.1) ps) → are_utf8_values ps ≡ true
values_back [] h = refl
values_back (p ∷ ps) h = rw (h.0, values_back ps h.1) refl

mutual
  tested : (t : Markup) → is_utf8_markup t ≡ true → Texts (texts_of t)
  tested (text bs) e = (e, tt)
  tested (node name ps c) e =
      let h = both (are_utf8_values ps) (are_utf8_markups c) e in join (map (λ p. p.1) ps) (texts_of_all c) (values ps h.0) (all_tested c h.1)

  all_tested : (ts : Markups) → are_utf8_markups ts ≡ true → Texts (texts_of_all ts)
  all_tested empty e = tt
  all_tested (more t ts) e =
      let h = both (is_utf8_markup t) (are_utf8_markups ts) e in join (texts_of t) (texts_of_all ts) (tested t h.0) (all_tested ts h.1)

mutual
  back : (t : Markup) → Texts (texts_of t) → is_utf8_markup t ≡ true
  back (text bs) h = h.0
  back (node name ps c) h = let p = part (map (λ p. p.1) ps) (texts_of_all c) h in rw (values_back ps p.0, all_back c p.1) refl

  all_back : (ts : Markups) → Texts (texts_of_all ts) → are_utf8_markups ts ≡ true
  all_back empty h = refl
  all_back (more t ts) h = let p = part (texts_of t) (texts_of_all ts) h in rw (back t p.0, all_back ts p.1) refl

pub one_by_one : (t : Markup) → (is_utf8_markup t ≡ true) ↔ (AllByRecursion (λ bs. is_utf8 bs ≡ true) (texts_of t))
one_by_one t = (tested t, back t)
