-- What each text and element is, found one after another.
use Rattle.std.proofs.Common.{◌≡◌, ℕ, ◌+◌, Bool, true, false, Option, None, List, [], ◌∷◌, ◌++◌, refl, sym, ap, ◌∙◌, drop}
use Rattle.std.specs.Prelude.{if◌then◌else◌}
use Rattle.wt_html_grammar.specs.Markup.{Markup, Markups, text, node}
use Rattle.wt_html_elements.specs.declared.content.Content.{Content}
use Rattle.wt_html_elements.specs.Built.{view_content, views}
use Rattle.wt_schema.specs.Groups.{is_dropped, open_after}
use Rattle.wt_html_in.specs.declared.roles.Role.{Role}
use Rattle.wt_html_in.specs.declared.roles.Role.TheVariants as are
use Rattle.wt_html_in.specs.Roles.{role_at, roles, open_behind}

-- the roles of those up to a place are found, with this group open there
pub record Found (all : List Content) (done : List Role) (group : Option (List ℕ)) (at index : ℕ) : Type 0 where
  pub place : at ≡ index
  pub parts : done ++ roles group (views (drop index all)) ≡ roles None (views all)

behind_is : (g : Option (List ℕ)) (m : Markup) (ts : Markups) → open_behind (role_at g m ts) g m ≡ open_after g m ts
behind_is g (text bs) ts = by_test (is_dropped g bs ts)
  where
    by_test : (d : Bool) → open_behind (if d then are.Gap else are.Text) g (text bs) ≡ (if d then g else None)
    by_test true = refl
    by_test false = refl
behind_is g (node name ps c) ts = refl

push_role : (done : List Role) (r : Role) (rest : List Role) → (done ++ r ∷ []) ++ rest ≡ done ++ r ∷ rest
push_role [] r rest = refl
push_role (q ∷ done) r rest = ap (λ x. q ∷ x) (push_role done r rest)

pub found_on : (all : List Content) (done more_done : List Role) (g h : Option (List ℕ)) (at index : ℕ) (r : Role) (c : Content) (cs : List Content)
    → Found all done g at index → more_done ≡ done ++ r ∷ [] → drop index all ≡ c ∷ cs → drop (index + 1) all ≡ cs
    → r ≡ role_at g (view_content c) (views cs) → h ≡ open_behind r g (view_content c) → Found all more_done h (at + 1) (index + 1)
found_on all done more_done g h at index r c cs f d x y e o =
    let m = view_content c in
    let ts = views cs in
    let after : h ≡ open_after g m ts = o ∙ ap (λ q. open_behind q g m) e ∙ behind_is g m ts in
    record {
      place = ap (λ n. n + 1) f.place;
      parts = ap (λ xs. xs ++ roles h (views (drop (index + 1) all))) d
          ∙ push_role done r (roles h (views (drop (index + 1) all)))
          ∙ ap (λ xs. done ++ r ∷ roles h (views xs)) y
          ∙ ap (λ q. done ++ r ∷ roles q ts) after
          ∙ ap (λ q. done ++ q ∷ roles (open_after g m ts) ts) e
          ∙ ap (λ xs. done ++ roles g (views xs)) (sym x)
          ∙ f.parts;
    }
