-- A node of a page's tree that is reached outside of groups: a byte of it that no group in it has is in no group of the page.
use Rattle.std.proofs.Common.{arith, ◌≡◌, ◌<◌, ◌≤◌, inl, inr, ℕ, zero, suc, ◌+◌, Bool, true, false, None, List, [], ◌∷◌, length, refl, sym, ap, ◌∙◌, subst, length-append}
use Rattle.std.specs.Prelude.{if◌then◌else◌}
use Rattle.std.specs.Str.{IsUtf8}
use Rattle.wt_tree.specs.Kinds.{is_leaf}
use Rattle.wt_tree.specs.Source.{flat, flat_of_all}
use Rattle.wt_tree.specs.Tiling.{is_group, HasNoGroup, NoneIsGroup}
use Rattle.wt_tree.specs.Tree.{Tree, tree, Trees, none, more, label}
use Rattle.wt_checks.specs.Kept.{children}
use Rattle.wt_expand.specs.Work.{Pages}
use Rattle.wt_commands.specs.Answers.{refusal_of_page}
use Rattle.wt_annotated.specs.Numbering.{next_after, count}
use Rattle.wt_part_laws.specs.Placeless.{all_placeless}
use Rattle.wt_called_edit_laws.specs.AllTold.{starts_at, starts_in}
use Rattle.wt_called_edit_laws.specs.Covered.{IfGroup, NoGroupAt, NoneGroupAt}
use Rattle.wt_called_edit_laws.specs.Groups.{called_tree}
use Rattle.wt_called_edit_laws.specs.RowBlocks.{IsReachedAt, IsReachedIn}
use Rattle.wt_called_edit_laws.specs.Settled.{settled, all_settled}
use Rattle.wt_called_edit_laws.proofs.BareInsides.{IsBare, AreBare}
use Rattle.wt_called_edit_laws.proofs.BlocksOutside.{called_bare, body_bare, inside_size, inner_bare, all_placeless_bare, beside_one, beside_all}
use Rattle.wt_called_edit_laws.proofs.PageBody.{page_body}
use Rattle.wt_called_edit_laws.proofs.AllTold.NodePlaces.{settled_size, if_false, page_nodes_settled}
use Rattle.wt_called_edit_laws.proofs.AllTold.Starts.{HasByte}

-- ---- a tree without groups

pub with_false : (v : Bool) (P : Type 0) (b : ℕ) (xs us : Trees) → v ≡ false → NoneGroupAt b us → IfGroup v P (NoneGroupAt b (if v then xs else us))
with_false true P b xs us e h = let no : true ≡ false = e in absurd (cc)
with_false false P b xs us e h = h

unless : (v : Bool) (A B : Type 0) → v ≡ false → B → IfGroup v A B
unless true A B e h = let no : true ≡ false = e in absurd (cc)
unless false A B e h = h

mutual
  pub none_at : (b : ℕ) (t : Tree) → HasNoGroup t → NoGroupAt b t
  none_at b (tree l ts) h = unless (is_group l.kind) _ (NoneGroupAt b ts) h.0 (none_among b ts h.1)

  none_among : (b : ℕ) (ts : Trees) → NoneIsGroup ts → NoneGroupAt b ts
  none_among b none h = tt
  none_among b (more t ts) h = (none_at b t h.0, none_among b ts h.1)

-- ---- where it is

-- no group of these nodes has this byte, and it is one of theirs
record IsClearOf (free : Type 0) (b at size : ℕ) : Type 0 where
  none : free
  low : at ≤ b
  high : b < at + size

leaf_or : (v : Bool) → (v ≡ true → ⊥) → v ≡ false
leaf_or true h = absurd (h refl)
leaf_or false h = refl

none_reached : (i : ℕ) (is : List ℕ) (n at : ℕ) (ts : Trees) (u : Tree) → ts ≡ none → IsReachedIn i is (all_settled n at ts) u → ⊥
none_reached i is n at none u e h = h
none_reached i is n at (more t ts) u e h = absurd (cc)

mutual
  clear_at : (b n at : ℕ) (is : List ℕ) (v u : Tree) → IsBare v → IsReachedAt is (settled n at v) u → NoGroupAt b u
      → starts_at at is (settled n at v) ≤ b → b < starts_at at is (settled n at v) + length (flat u) → IsClearOf (NoGroupAt b (settled n at v)) b at (length (flat v))
  clear_at b n at [] (tree l ts) u h e g low high =
      let size : length (flat u) ≡ length (flat (tree l ts)) = ap (λ (x : Tree). length (flat x)) (sym e) ∙ settled_size n at (tree l ts) in
      record {
        none = subst (NoGroupAt b) (sym e) g;
        low = low;
        high = omega (arith, high, size);
      }
  clear_at b n at (i ∷ is) (tree l ts) u h e g low high =
      let from : ℕ = at + length l.opening in
      let m : ℕ = next_after l.kind n in
      let us : Trees = all_settled m from ts in
      let own : Trees = if is_group l.kind then ts else us in
      let same : own ≡ us = if_false (is_group l.kind) ts us e.0 in
      let bare = inner_bare (is_group l.kind) l ts e.0 h in
      let there : IsReachedIn i is us u = subst (λ (ws : Trees). IsReachedIn i is ws u) same e.1 in
      let leaf : is_leaf l.kind ≡ false = leaf_or (is_leaf l.kind) (λ f. none_reached i is m from ts u (bare.0 f) there) in
      let start : starts_in from i is own ≡ starts_in from i is us = ap (λ (ws : Trees). starts_in from i is ws) same in
      let from_low : starts_in from i is own ≤ b = low in
      let from_high : b < starts_in from i is own + length (flat u) = high in
      let r = clear_in b m from i is ts u bare.1 there g (omega (arith, start, from_low)) (omega (arith, start, from_high)) in
      let size = inside_size (is_leaf l.kind) l.own l.opening (flat_of_all ts) l.closing leaf in
      let inside : length l.opening + length (flat_of_all ts) ≤ length (flat (tree l ts)) = size in
      let above = r.low in
      let below = r.high in
      record {
        none = with_false (is_group l.kind) _ b ts us e.0 r.none;
        low = omega (arith, above);
        high = omega (arith, below, inside);
      }

  clear_in : (b n at i : ℕ) (is : List ℕ) (vs : Trees) (u : Tree) → AreBare vs → IsReachedIn i is (all_settled n at vs) u → NoGroupAt b u
      → starts_in at i is (all_settled n at vs) ≤ b → b < starts_in at i is (all_settled n at vs) + length (flat u)
      → IsClearOf (NoneGroupAt b (all_settled n at vs)) b at (length (flat_of_all vs))
  clear_in b n at i is none u h e g low high = absurd e
  clear_in b n at zero is (more t ts) u h e g low high =
      let r = clear_at b n at is t u h.0 e g low high in
      let both = length-append (flat t) (flat_of_all ts) in
      let above = r.low in
      let below = r.high in
      record {
        none = (r.none, beside_all b (n + count t) (at + length (flat t)) ts h.1 (inl below));
        low = above;
        high = omega (arith, below, both);
      }
  clear_in b n at (suc i) is (more t ts) u h e g low high =
      let rest : ℕ = at + length (flat t) in
      let start : starts_in (at + length (flat (settled n at t))) i is (all_settled (n + count t) rest ts) ≡ starts_in rest i is (all_settled (n + count t) rest ts) =
      ap (λ (k : ℕ). starts_in (at + k) i is (all_settled (n + count t) rest ts)) (settled_size n at t) in
      let from_low : starts_in (at + length (flat (settled n at t))) i is (all_settled (n + count t) rest ts) ≤ b = low in
      let from_high : b < starts_in (at + length (flat (settled n at t))) i is (all_settled (n + count t) rest ts) + length (flat u) = high in
      let r = clear_in b (n + count t) rest i is ts u h.1 e g (omega (arith, start, from_low)) (omega (arith, start, from_high)) in
      let both = length-append (flat t) (flat_of_all ts) in
      let above = r.low in
      let below = r.high in
      record {
        none = (beside_one b n at t h.0 (inr above), r.none);
        low = omega (arith, above);
        high = omega (arith, below, both);
      }

-- ---- in the page

body_free : (b : ℕ) (t : Tree) → is_group (label t).kind ≡ false → NoneGroupAt b (children t) → NoGroupAt b t
body_free b (tree l ts) e h = unless (is_group l.kind) _ (NoneGroupAt b ts) e h

pub children_bare : (t : Tree) → is_group (label t).kind ≡ false → IsBare t → AreBare (children t)
children_bare (tree l ts) e h = body_bare l ts e h

-- a byte of a node that no group in it has, no group of the page has
pub reached_free : (pages : Pages) (page : List ℕ) (i : ℕ) (is : List ℕ) (u : Tree) (b : ℕ) → IsUtf8 page → refusal_of_page pages page ≡ None
    → IsReachedIn i is (children (called_tree pages page)) u → NoGroupAt b u → starts_in 0 i is (children (called_tree pages page)) ≤ b
    → b < starts_in 0 i is (children (called_tree pages page)) + length (flat u) → NoGroupAt b (called_tree pages page)
reached_free pages page i is u b utf8 unrefused e g low high =
    let t : Tree = called_tree pages page in
    let group : is_group (label t).kind ≡ false = ap is_group (page_body pages page utf8 unrefused).kind in
    let vs : Trees = all_placeless (children t) in
    let m : ℕ = next_after (label t).kind 1 in
    let s : children t ≡ all_settled m 0 vs = page_nodes_settled pages page utf8 unrefused in
    let start : starts_in 0 i is (children t) ≡ starts_in 0 i is (all_settled m 0 vs) = ap (λ (ws : Trees). starts_in 0 i is ws) s in
    let r = clear_in b m 0 i is vs u (all_placeless_bare (children t) (children_bare t group (called_bare pages page)))
    (subst (λ (ws : Trees). IsReachedIn i is ws u) s e) g (omega (arith, start, low)) (omega (arith, start, high)) in
    body_free b t group (subst (NoneGroupAt b) (sym s) r.none)

pub reached_outside : (pages : Pages) (page : List ℕ) (i : ℕ) (is : List ℕ) (u : Tree) (b : ℕ) → IsUtf8 page → refusal_of_page pages page ≡ None
    → IsReachedIn i is (children (called_tree pages page)) u → HasNoGroup u → HasByte u → b ≡ starts_in 0 i is (children (called_tree pages page))
    → NoGroupAt b (called_tree pages page)
reached_outside pages page i is u b utf8 unrefused e g w z =
    reached_free pages page i is u b utf8 unrefused e (none_at b u g) (omega (arith, z)) (omega (arith, z, w))
