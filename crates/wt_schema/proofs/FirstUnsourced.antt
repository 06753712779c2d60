-- The first element without a source, by going over the tree, is the first in the list of elements.
use Rattle.std.proofs.Common.{◌≡◌, ℕ, suc, ◌+◌, ◌++◌, Bool, true, false, Option, Some, None, List, [], ◌∷◌, refl, sym, ap, ap₂, ◌∙◌, map}
use Rattle.std.specs.Prelude.{not, ◌||◌, ◌&&◌, if◌then◌else◌}
use Rattle.std.specs.Option.{option_or}
use Rattle.wt_tree.specs.declared.kind.Kind.{Kind}
use Rattle.wt_tree.specs.declared.kind.Kind.TheVariants as kind
use Rattle.wt_html_grammar.specs.Markup.{Pair, Markup, Markups, text, node, empty, more}
use Rattle.wt_schema.specs.declared.standing.Standing.{Standing}
use Rattle.wt_schema.specs.declared.standing.Standing.TheVariants as stands
use Rattle.wt_schema.specs.Groups.{standing, open_after, is_grouped, pairs_for}
use Rattle.wt_schema.specs.Fit.{BodyElement, elements, row_as, is_block_element, body_of}
use Rattle.wt_schema.specs.Unsourced.{is_marked, is_unsourced, unsourced_as, unsourced_node, unsourced_nodes, lacks_source, unsourced_body, unsourced}
use Rattle.wt_schema.specs.Misfits.{Place, place, places, places_of_all, is_asked, is_section_row, source_at, sources_of_body, first_unsourced}
use Rattle.wt_schema.proofs.SectionRows.{section_by_name}

-- an element of this row, with these attributes
abbrev lacks : Option Kind → List Pair → Bool
lacks j ps = not (is_section_row j) && is_unsourced ps

lacks_by_row : (name : List ℕ) (s : Standing) (ps : List Pair) → lacks_source name ps ≡ lacks (row_as s name ps) ps
lacks_by_row name s ps = ap (λ b. not b && is_unsourced ps) (sym (section_by_name name (pairs_for s ps)))

abbrev first_in : List Place → Option ℕ
first_in xs = first_unsourced (map source_at xs)

here : (b : Bool) (n : ℕ) (xs : List (ℕ × Bool)) → first_unsourced ((n, b) ∷ xs) ≡ (if b then Some n else first_unsourced xs)
here true n xs = refl
here false n xs = refl

or_first : (b : Bool) (n : ℕ) (o p : Option ℕ) → (if b then Some n else option_or o p) ≡ option_or (if b then Some n else o) p
or_first true n o p = refl
or_first false n o p = refl

append : (xs ys : List Place) → first_in (xs ++ ys) ≡ option_or (first_in xs) (first_in ys)
append [] ys = refl
append (x ∷ xs) ys =
    let b : Bool = is_asked x.inside x.standing && lacks x.kind x.attributes in
    here b x.number (map source_at (xs ++ ys)) ∙ ap (λ o. if b then Some x.number else o) (append xs ys)
    ∙ or_first b x.number (first_in xs) (first_in ys)
    ∙ ap (λ o. option_or o (first_in ys)) (sym (here b x.number (map source_at xs)))

-- ---- nothing in a group is asked

not_asked : (s : Standing) → is_asked true s ≡ false
not_asked stands.Alone = refl
not_asked stands.First = refl
not_asked stands.Further = refl
not_asked stands.Astray = refl

skipped : (x : Place) (xs : List Place) → x.inside ≡ true → first_in xs ≡ None → first_in (x ∷ xs) ≡ None
skipped x xs e f =
    here (is_asked x.inside x.standing && lacks x.kind x.attributes) x.number (map source_at xs)
    ∙ ap (λ b. if b && lacks x.kind x.attributes then Some x.number else first_in xs) (ap (λ i. is_asked i x.standing) e ∙ not_asked x.standing) ∙ f

mutual
  none_node : (t : Markup) (n : ℕ) (p : Option Kind) (b : Bool) (group : Option (List ℕ)) → first_in (places n p true b group t) ≡ None
  none_node (text bs) n p b group = refl
  none_node (node name ps c) n p b group =
      skipped (place n p true b (standing group ps) (row_as (standing group ps) name ps) ps c)
      (places_of_all (suc n) (row_as (standing group ps) name ps) true false None c) refl
      (none_nodes c (suc n) (row_as (standing group ps) name ps) false None)

  none_nodes : (ts : Markups) (n : ℕ) (p : Option Kind) (b : Bool) (group : Option (List ℕ)) → first_in (places_of_all n p true b group ts) ≡ None
  none_nodes empty n p b group = refl
  none_nodes (more t ts) n p b group =
      append (places n p true b group t) (places_of_all (n + elements t) p true (b || is_block_element group t) (open_after group t ts) ts)
      ∙ ap₂ option_or (none_node t n p b group) (none_nodes ts (n + elements t) p (b || is_block_element group t) (open_after group t ts))

-- ---- an element, by how it stands

as_first : (s : Standing) (n : ℕ) (p : Option Kind) (b : Bool) (j : Option Kind) (ps : List Pair) (c : Markups) (o : Option ℕ)
    → o ≡ first_in (places_of_all (suc n) j false false None c)
    → unsourced_as s n (lacks j ps) o ≡ first_in (place n p false b s j ps c ∷ places_of_all (suc n) j (false || is_grouped s) false None c)
as_first stands.Alone n p b j ps c o h =
    ap (λ o. if lacks j ps then Some n else o) h ∙ sym (here (lacks j ps) n (map source_at (places_of_all (suc n) j false false None c)))
as_first stands.First n p b j ps c o h =
    ap (λ o. if lacks j ps then Some n else o) (sym (none_nodes c (suc n) j false None))
    ∙ sym (here (lacks j ps) n (map source_at (places_of_all (suc n) j true false None c)))
as_first stands.Further n p b j ps c o h =
    sym (none_nodes c (suc n) j false None) ∙ sym (here false n (map source_at (places_of_all (suc n) j true false None c)))
as_first stands.Astray n p b j ps c o h =
    ap (λ o. if lacks j ps then Some n else o) h ∙ sym (here (lacks j ps) n (map source_at (places_of_all (suc n) j false false None c)))

mutual
  node_first : (t : Markup) (n : ℕ) (p : Option Kind) (b : Bool) (group : Option (List ℕ)) → unsourced_node n group t ≡ first_in (places n p false b group t)
  node_first (text bs) n p b group = refl
  node_first (node name ps c) n p b group =
      ap (λ l. unsourced_as (standing group ps) n l (unsourced_nodes (suc n) None c)) (lacks_by_row name (standing group ps) ps)
      ∙ as_first (standing group ps) n p b (row_as (standing group ps) name ps) ps c (unsourced_nodes (suc n) None c)
      (nodes_first c (suc n) (row_as (standing group ps) name ps) false None)

  nodes_first : (ts : Markups) (n : ℕ) (p : Option Kind) (b : Bool) (group : Option (List ℕ))
      → unsourced_nodes n group ts ≡ first_in (places_of_all n p false b group ts)
  nodes_first empty n p b group = refl
  nodes_first (more t ts) n p b group =
      ap₂ option_or (node_first t n p b group) (nodes_first ts (n + elements t) p (b || is_block_element group t) (open_after group t ts))
      ∙ sym (append (places n p false b group t) (places_of_all (n + elements t) p false (b || is_block_element group t) (open_after group t ts) ts))

pub unsourced_first : (m : Markup) (f : BodyElement) → body_of m ≡ Some f → unsourced m ≡ first_unsourced (sources_of_body f)
unsourced_first m f e =
    ap unsourced_body e
    ∙ ap (λ o. if is_marked f.attributes then Some f.number else o) (nodes_first f.contents (suc f.number) (Some kind.Body) false None)
    ∙ sym (here (is_marked f.attributes) f.number (map source_at (places_of_all (suc f.number) (Some kind.Body) false false None f.contents)))

pub unsourced_none : (m : Markup) → body_of m ≡ None → unsourced m ≡ None
unsourced_none m e = ap unsourced_body e
