-- Contents, and the trees that they stand for.
use Rattle.std.proofs.Common.{◌≡◌, ℕ, suc, List, [], ◌∷◌, ◌++◌, true, false, length, refl, sym, ap, ◌∙◌, arith}
use Rattle.std.specs.Prelude.{◌==◌}
use Rattle.std.proofs.lemmas.Bool.{eqb-true}
use Rattle.wt_html_elements.specs.declared.content.Content.{Content}
use Rattle.wt_html_grammar.specs.Markup.{Pair, Markup, Markups, text, empty, more, flush}
use Rattle.wt_html_grammar.specs.Events.{Frame, append}
use Rattle.wt_html_elements.specs.Built.{view_content, views}

append_empty : (ts : Markups) → append ts empty ≡ ts
append_empty empty = refl
append_empty (more t ts) = ap (more t) (append_empty ts)

views_push : (ns : List Content) (n : Content) → views (ns ++ n ∷ []) ≡ append (views ns) (more (view_content n) empty)
views_push [] n = refl
views_push (m ∷ ms) n = ap (more (view_content m)) (views_push ms n)

flush_child : (a : Markups) (r : List ℕ) (t : Markup) → append (append a (flush r empty)) (more t empty) ≡ append a (flush r (more t empty))
flush_child empty [] t = refl
flush_child empty (c ∷ cs) t = refl
flush_child (more s ts) r t = ap (more s) (flush_child ts r t)

-- the text behind the items
pub flushed_some : (ns ms : List Content) (n : Content) (r : List ℕ) → ms ≡ ns ++ n ∷ [] → view_content n ≡ text r → (r ≡ [] → ⊥)
    → views ms ≡ append (views ns) (flush r empty)
flushed_some ns ms n [] e v h = absurd (h refl)
flushed_some ns ms n (c ∷ cs) e v h = ap views e ∙ views_push ns n ∙ ap (λ t. append (views ns) (more t empty)) v

pub flushed_none : (ns : List Content) (r : List ℕ) → r ≡ [] → views ns ≡ append (views ns) (flush r empty)
flushed_none ns r e = sym (append_empty (views ns)) ∙ ap (λ q. append (views ns) (flush q empty)) (sym e)

-- a child behind that
pub child_push : (n : List ℕ) (ps : List Pair) (ns ms : List Content) (c : Content) (a : Markups) (r q : List ℕ)
    → ms ≡ ns ++ c ∷ [] → views ns ≡ append a (flush r empty) → q ≡ []
    → record { name = n; attributes = ps; items = views ms; run = q }
    ≡ (let f : Frame = record { name = n; attributes = ps; items = append a (flush r (more (view_content c) empty)); run = [] } in f)
child_push n ps ns ms c a r q e v z =
    let F : Markups → List ℕ → Frame = λ x y. record { name = n; attributes = ps; items = x; run = y } in
    ap (λ x. F x q) (ap views e ∙ views_push ns c ∙ ap (λ x. append x (more (view_content c) empty)) v ∙ flush_child a r (view_content c))
    ∙ ap (F (append a (flush r (more (view_content c) empty)))) z

only_root : (rest : List Content) (n : Content) (t : Markup) → views (rest ++ n ∷ []) ≡ more t empty → view_content n ≡ t
only_root [] n t e = cc
only_root (m ∷ []) n t e = cc
only_root (m ∷ k ∷ ks) n t e = cc

pub popped_root : (old rest : List Content) (n : Content) → old ≡ rest ++ n ∷ [] → (t : Markup) → views old ≡ more t empty → view_content n ≡ t
popped_root old rest n e t h = only_root rest n t (ap views (sym e) ∙ h)

pub no_length : (xs : List ℕ) → (length xs == 0) ≡ true → xs ≡ []
no_length [] e = refl
no_length (x ∷ xs) e = absurd (omega (arith, eqb-true (suc (length xs)) 0 e))

pub some_length : (xs : List ℕ) → (length xs == 0) ≡ false → xs ≡ [] → ⊥
some_length [] e h = cc
some_length (x ∷ xs) e h = cc
