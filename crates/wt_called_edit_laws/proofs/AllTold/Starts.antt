-- Where the nodes of a tree begin, by what is before them: no two paragraphs and headings begin at one place.
use Rattle.std.proofs.Common.{arith, ◌≡◌, ◌<◌, ◌≤◌, ℕ, zero, suc, ◌+◌, Bool, true, false, List, [], ◌∷◌, ◌++◌, length, refl, ap, subst, length-append}
use Rattle.std.specs.Prelude.{if◌then◌else◌}
use Rattle.wt_tree.specs.Kinds.{is_leaf}
use Rattle.wt_tree.specs.Source.{flat, flat_of_all}
use Rattle.wt_tree.specs.declared.kind.Kind.{Kind}
use Rattle.wt_tree.specs.declared.kind.Kind.TheVariants as kind
use Rattle.wt_tree.specs.Tiling.{is_group}
use Rattle.wt_tree.specs.Tree.{Label, Tree, tree, Trees, none, more}
use Rattle.wt_called_edit_laws.specs.AllTold.{starts_at, starts_in}
use Rattle.wt_called_edit_laws.proofs.AllTold.EachBlocks.{OfHousing, EachBlock, EachBlockIn, outside}
use Rattle.wt_called_edit_laws.proofs.AllTold.Found.{Housing, a_block, a_shell, another, housing_of}

-- ---- a block at a path

-- each block has a byte
abbrev pub HasByte : Tree → Type 0
HasByte t = 0 < length (flat t)

abbrev pub IsBlockNode : Tree → Type 0
IsBlockNode (tree l ts) = housing_of l.kind ≡ a_block

-- no group is on the way
abbrev mutual
  pub BlockAt : List ℕ → Tree → Type 0
  BlockAt [] t = IsBlockNode t × HasByte t
  BlockAt (i ∷ is) (tree l ts) = (is_group l.kind ≡ false) × BlockIn i is ts

  pub BlockIn : ℕ → List ℕ → Trees → Type 0
  BlockIn i is none = ⊥
  BlockIn zero is (more t ts) = BlockAt is t
  BlockIn (suc i) is (more t ts) = BlockIn i is ts

pub block_outside : (k : Kind) → housing_of k ≡ a_block → is_group k ≡ false
block_outside kind.Para e = refl
block_outside (kind.Heading n) e = refl
block_outside k e = absurd (cc)

-- what is said of such a node, and of one that leads to such
pub held_at : (Q : Tree → Type 0) (l : Label) (ts : Trees) → EachBlock Q (tree l ts) → is_group l.kind ≡ false
    → (is_leaf l.kind ≡ true → ts ≡ none)
    × OfHousing (housing_of l.kind) (Q (tree l ts) × EachBlockIn (λ (t : Tree). ⊥) ts) (EachBlockIn Q ts) (EachBlockIn (λ (t : Tree). ⊥) ts)
held_at Q l ts h g =
    outside (is_group l.kind) ((is_leaf l.kind ≡ true → ts ≡ none)
    × OfHousing (housing_of l.kind) (Q (tree l ts) × EachBlockIn (λ (t : Tree). ⊥) ts) (EachBlockIn Q ts) (EachBlockIn (λ (t : Tree). ⊥) ts)) g h

none_held : (Q : Tree → Type 0) (v : Housing) (t : Tree) (ts : Trees) → OfHousing v (Q t × EachBlockIn (λ (u : Tree). ⊥) ts) (EachBlockIn Q ts) (EachBlockIn (λ (u : Tree). ⊥) ts)
    → v ≡ a_block → Q t × EachBlockIn (λ (u : Tree). ⊥) ts
none_held Q a_block t ts h e = h
none_held Q a_shell t ts h e = absurd (cc)
none_held Q another t ts h e = absurd (cc)

some_inside : (v : Housing) (ts : Trees) → OfHousing v (⊥ × EachBlockIn (λ (u : Tree). ⊥) ts) (EachBlockIn (λ (u : Tree). ⊥) ts) (EachBlockIn (λ (u : Tree). ⊥) ts)
    → EachBlockIn (λ (u : Tree). ⊥) ts
some_inside a_block ts h = absurd h.0
some_inside a_shell ts h = h
some_inside another ts h = h

-- none is among nodes that hold none
mutual
  no_block : (is : List ℕ) (t : Tree) → EachBlock (λ (u : Tree). ⊥) t → BlockAt is t → ⊥
  no_block [] (tree l ts) h b =
      (none_held (λ (u : Tree). ⊥) (housing_of l.kind) (tree l ts) ts (held_at (λ (u : Tree). ⊥) l ts h (block_outside l.kind b.0)).1 b.0).0
  no_block (i ∷ is) (tree l ts) h b = no_blocks i is ts (some_inside (housing_of l.kind) ts (held_at (λ (u : Tree). ⊥) l ts h b.0).1) b.1

  no_blocks : (i : ℕ) (is : List ℕ) (ts : Trees) → EachBlockIn (λ (u : Tree). ⊥) ts → BlockIn i is ts → ⊥
  no_blocks i is none h b = b
  no_blocks zero is (more t ts) h b = no_block is t h.0 b
  no_blocks (suc i) is (more t ts) h b = no_blocks i is ts h.1 b

-- where one is in a node, this is a table or a part of one
shell_inside : (Q : Tree → Type 0) (v : Housing) (i : ℕ) (is : List ℕ) (t : Tree) (ts : Trees)
    → OfHousing v (Q t × EachBlockIn (λ (u : Tree). ⊥) ts) (EachBlockIn Q ts) (EachBlockIn (λ (u : Tree). ⊥) ts) → BlockIn i is ts → EachBlockIn Q ts
shell_inside Q a_block i is t ts h b = absurd (no_blocks i is ts h.1 b)
shell_inside Q a_shell i is t ts h b = h
shell_inside Q another i is t ts h b = absurd (no_blocks i is ts h b)

-- ---- they are in what holds them

inside_flat : (v : Bool) (own opening inside closing : List ℕ) → v ≡ false
    → length opening + length inside ≤ length (if v then own else opening ++ inside ++ closing)
inside_flat true own opening inside closing e = absurd (cc)
inside_flat false own opening inside closing e =
    let z : length (if false then own else opening ++ inside ++ closing) ≡ length (opening ++ inside) + length closing = length-append (opening ++ inside) closing in
    omega (arith, z, length-append opening inside)

leaf_or : (v : Bool) → (v ≡ true → ⊥) → v ≡ false
leaf_or true h = absurd (h refl)
leaf_or false h = refl

mutual
  begins_inside : (Q : Tree → Type 0) (at : ℕ) (is : List ℕ) (t : Tree) → EachBlock Q t → BlockAt is t → (at ≤ starts_at at is t) × (starts_at at is t < at + length (flat t))
  begins_inside Q at [] (tree l ts) h b = let some = b.1 in (omega arith, omega (arith, some))
  begins_inside Q at (i ∷ is) (tree l ts) h b =
      let g = held_at Q l ts h b.0 in
      let leaf : is_leaf l.kind ≡ false = leaf_or (is_leaf l.kind) (λ e. subst (BlockIn i is) (g.0 e) b.1) in
      let e = inside_flat (is_leaf l.kind) l.own l.opening (flat_of_all ts) l.closing leaf in
      let r = begin_inside Q (at + length l.opening) i is ts (shell_inside Q (housing_of l.kind) i is (tree l ts) ts g.1 b.1) b.1 in
      (omega (arith, r.0), omega (arith, r.1, e))

  begin_inside : (Q : Tree → Type 0) (at i : ℕ) (is : List ℕ) (ts : Trees) → EachBlockIn Q ts → BlockIn i is ts
      → (at ≤ starts_in at i is ts) × (starts_in at i is ts < at + length (flat_of_all ts))
  begin_inside Q at i is none h b = absurd b
  begin_inside Q at zero is (more t ts) h b =
      let r = begins_inside Q at is t h.0 b in (r.0, omega (arith, r.1, length-append (flat t) (flat_of_all ts)))
  begin_inside Q at (suc i) is (more t ts) h b =
      let r = begin_inside Q (at + length (flat t)) i is ts h.1 b in (omega (arith, r.0), omega (arith, r.1, length-append (flat t) (flat_of_all ts)))

-- ---- no two begin at one place

abbrev up : List ℕ → List ℕ
up [] = []
up (i ∷ is) = suc i ∷ is

mutual
  pub same_path : (Q : Tree → Type 0) (at : ℕ) (p q : List ℕ) (t : Tree) → EachBlock Q t → BlockAt p t → BlockAt q t → starts_at at p t ≡ starts_at at q t → p ≡ q
  same_path Q at [] [] t h b c e = refl
  same_path Q at [] (j ∷ js) (tree l ts) h b c e = absurd (no_blocks j js ts (none_held Q (housing_of l.kind) (tree l ts) ts (held_at Q l ts h c.0).1 b.0).1 c.1)
  same_path Q at (i ∷ is) [] (tree l ts) h b c e = absurd (no_blocks i is ts (none_held Q (housing_of l.kind) (tree l ts) ts (held_at Q l ts h b.0).1 c.0).1 b.1)
  same_path Q at (i ∷ is) (j ∷ js) (tree l ts) h b c e =
      same_paths Q (at + length l.opening) i is j js ts (shell_inside Q (housing_of l.kind) i is (tree l ts) ts (held_at Q l ts h b.0).1 b.1) b.1 c.1 e

  pub same_paths : (Q : Tree → Type 0) (at i : ℕ) (is : List ℕ) (j : ℕ) (js : List ℕ) (ts : Trees) → EachBlockIn Q ts → BlockIn i is ts → BlockIn j js ts
      → starts_in at i is ts ≡ starts_in at j js ts → (i ∷ is) ≡ (j ∷ js)
  same_paths Q at i is j js none h b c e = absurd b
  same_paths Q at zero is zero js (more t ts) h b c e = ap (λ (p : List ℕ). zero ∷ p) (same_path Q at is js t h.0 b c e)
  same_paths Q at zero is (suc j) js (more t ts) h b c e =
      let r = begins_inside Q at is t h.0 b in
      let s = begin_inside Q (at + length (flat t)) j js ts h.1 c in absurd (omega (arith, r.1, s.0, e))
  same_paths Q at (suc i) is zero js (more t ts) h b c e =
      let r = begins_inside Q at js t h.0 c in
      let s = begin_inside Q (at + length (flat t)) i is ts h.1 b in absurd (omega (arith, r.1, s.0, e))
  same_paths Q at (suc i) is (suc j) js (more t ts) h b c e = ap up (same_paths Q (at + length (flat t)) i is j js ts h.1 b c e)
