-- The same nodes with other blocks among them, each with the number and at the place that the rest leaves it: nothing but these blocks is another one, and
-- all is moved by the bytes that were added before it.
use Rattle.std.proofs.Common.{arith, ◌≡◌, ℕ, ◌+◌, Bool, true, false, Option, Some, None, List, ◌++◌, length, refl, sym, ap, ◌∙◌, subst, length-append}
use Rattle.std.specs.Prelude.{if◌then◌else◌}
use Rattle.wt_tree.specs.Kinds.{is_leaf}
use Rattle.wt_tree.specs.Source.{flat, flat_of_all}
use Rattle.wt_tree.specs.Tiling.{is_group}
use Rattle.wt_tree.specs.Tree.{Label, Tree, tree, Trees, none, more, label}
use Rattle.wt_annotated.specs.Numbering.{next_after, count}
use Rattle.wt_annotated.specs.Slices.{opening_of, opening_by}
use Rattle.wt_part_laws.specs.Frames.{Part}
use Rattle.wt_part_laws.specs.TreeFrames.{TreeFrame, spot, kept, holder, TreeFrames, no_nodes, more_nodes, filled, all_filled}
use Rattle.wt_typed_blocks.specs.Edited.{Edited, stays, edited, round, Edits, no_edits, more_edits}
use Rattle.wt_called_edit_laws.specs.LocalChange.{Shift, MovesBy, MovesIn, StaysMoved, AllStayMoved, past_block, past_node, past_nodes, IsLocalAt, AreLocal}
use Rattle.wt_called_edit_laws.specs.Nodes.{NoLeaves, NoneLeaves, IsHolder, AreHolders}
use Rattle.wt_called_edit_laws.specs.Sends.{BlockSent, Sends, AllSend}
use Rattle.wt_called_edit_laws.specs.Settled.{settled, all_settled}
use Rattle.wt_called_edit_laws.specs.SettledPages.{AreKindred}
use Rattle.wt_called_edit_laws.proofs.CutFrames.{no_group_round}
use Rattle.wt_called_edit_laws.proofs.SettledNodes.{settled_gone}
use Rattle.wt_called_edit_laws.proofs.TextsMake.{flat_same, all_filled_kept}

-- ---- lengths

settled_size : (n at : ℕ) (t : Tree) → length (flat (settled n at t)) ≡ length (flat t)
settled_size n at t = ap length (sym (flat_same (settled n at t)) ∙ ap flat (settled_gone n at t) ∙ flat_same t)

-- of a node that is no leaf
inside_of : (v : Bool) (own bs : List ℕ) → v ≡ false → (if v then own else bs) ≡ bs
inside_of true own bs e = absurd (cc)
inside_of false own bs e = refl

holder_size : (l : Label) (ts : Trees) → is_leaf l.kind ≡ false
    → length (flat (tree l ts)) ≡ (length l.opening + length (flat_of_all ts)) + length l.closing
holder_size l ts e =
    ap length (inside_of (is_leaf l.kind) l.own (l.opening ++ flat_of_all ts ++ l.closing) e)
    ∙ length-append (l.opening ++ flat_of_all ts) l.closing
    ∙ ap (λ (n : ℕ). n + length l.closing) (length-append l.opening (flat_of_all ts))

both_size : (t : Tree) (ts : Trees) → length (flat_of_all (more t ts)) ≡ length (flat t) + length (flat_of_all ts)
both_size t ts = length-append (flat t) (flat_of_all ts)

-- ---- a node that stays

if_same : (v : Bool) (ts xs ys : Trees) → v ≡ true → (if v then ts else xs) ≡ (if v then ts else ys)
if_same true ts xs ys e = refl
if_same false ts xs ys e = absurd (cc)

if_moved : (v : Bool) (s : Shift) (ts xs ys : Trees) → AllStayMoved s xs ys → v ≡ false → AllStayMoved s (if v then ts else xs) (if v then ts else ys)
if_moved true s ts xs ys h e = absurd (cc)
if_moved false s ts xs ys h e = h

later : (s : Shift) (at to n : ℕ) → MovesBy s at to → MovesBy s (at + n) (to + n)
later s at to n h = omega (arith, h)

mutual
  same_moves : (t : Tree) (n m at to : ℕ) (s : Shift) → MovesBy s at to → StaysMoved s (settled n at t) (settled m to t)
  same_moves (tree l ts) n m at to s h = (
    refl,
    record { start = h; end = later s at to (length (flat (tree l ts))) h; open_w = refl; close_w = refl },
    λ e. if_same (is_group l.kind) ts (all_settled (next_after l.kind n) (at + length l.opening) ts) (all_settled (next_after l.kind m) (to + length l.opening) ts) e,
    λ e.
        if_moved (is_group l.kind) s ts (all_settled (next_after l.kind n) (at + length l.opening) ts) (all_settled (next_after l.kind m) (to + length l.opening) ts)
        (all_same_move ts (next_after l.kind n) (next_after l.kind m) (at + length l.opening) (to + length l.opening) s (later s at to (length l.opening) h)) e,
  )

  all_same_move : (ts : Trees) (n m at to : ℕ) (s : Shift) → MovesBy s at to → AllStayMoved s (all_settled n at ts) (all_settled m to ts)
  all_same_move none n m at to s h = tt
  all_same_move (more t ts) n m at to s h =
      (same_moves t n m at to s h, all_same_move ts (n + count t) (m + count t) (at + length (flat t)) (to + length (flat t)) s (later s at to (length (flat t)) h))

-- ---- a node with what is behind it

-- by what is sent for it; and so far what comes next is moved
abbrev pub IsLocalNode : Edited → Shift → Tree → Tree → ℕ → ℕ → ℕ → ℕ → Type 0
IsLocalNode e s v w n m at to =
    IsLocalAt e s (settled n at v) (settled m to w)
    × MovesBy (past_node e s (settled n at v) (settled m to w)) (at + length (flat v)) (to + length (flat w))

abbrev pub AreLocalNodes : Edits → Shift → Trees → Trees → ℕ → ℕ → ℕ → ℕ → Type 0
AreLocalNodes es s vs ws n m at to =
    AreLocal es s (all_settled n at vs) (all_settled m to ws)
    × MovesBy (past_nodes es s (all_settled n at vs) (all_settled m to ws)) (at + length (flat_of_all vs)) (to + length (flat_of_all ws))

stay_local : (t u v w : Tree) (n m at to : ℕ) (s : Shift) → MovesBy s at to → v ≡ w → IsLocalNode (stays t u) s v w n m at to
stay_local t u v w n m at to s h e =
    subst (λ (x : Tree). IsLocalNode (stays t u) s v x n m at to) e (same_moves v n m at to s h, later s at to (length (flat v)) h)

-- ---- a block whose content was edited

-- the same kind and delimiters, and no leaf
pub record IsKindredBlock (v w : Tree) : Type 0 where
  pub kindred : AreKindred v w
  pub inner : is_leaf (label v).kind ≡ false

same_opening : (l x : Label) → l.kind ≡ x.kind → l.opening ≡ x.opening → is_leaf l.kind ≡ false → opening_of x ≡ opening_of l
same_opening l x k o e = inside x (ap is_leaf (sym k) ∙ e) ∙ sym o ∙ sym (inside l e)
  where
    by : (v : Bool) (l : Label) → v ≡ false → opening_by v l ≡ l.opening
    by true l e = absurd (cc)
    by false l e = refl

    inside : (l : Label) → is_leaf l.kind ≡ false → opening_of l ≡ l.opening
    inside l e = by (is_leaf l.kind) l e

block_past : (s : Shift) (at to was now had have : ℕ) → MovesBy s at to → had ≡ was → have ≡ now → (to + now) + (s.had + had) ≡ (at + was) + (s.have + have)
block_past s at to was now had have h e f = omega (arith, h, e, f)

block_moves : (v w : Tree) (n m at to : ℕ) (s : Shift) → IsKindredBlock v w → MovesBy s at to
    → MovesIn s (past_block s (settled n at v) (settled m to w)) (label (settled n at v)).ranges (label (settled m to w)).ranges
block_moves (tree l ts) (tree x us) n m at to s k h = record {
  start = h;
  end =
      block_past s at to (length (flat (tree l ts))) (length (flat (tree x us))) (length (flat (settled n at (tree l ts)))) (length (flat (settled m to (tree x us)))) h
      (settled_size n at (tree l ts)) (settled_size m to (tree x us));
  open_w = ap length (same_opening l x k.kindred.kind k.kindred.opening k.inner);
  close_w = ap length (sym k.kindred.closing);
}

block_kindred : (v w : Tree) (n m at to : ℕ) → AreKindred v w → AreKindred (settled n at v) (settled m to w)
block_kindred (tree l ts) (tree x us) n m at to k = record { kind = k.kind; opening = k.opening; closing = k.closing }

-- ---- a node that holds such blocks

past_if : (v : Bool) (es : Edits) (s : Shift) (ts us xs ys : Trees) → v ≡ false → past_nodes es s (if v then ts else xs) (if v then us else ys) ≡ past_nodes es s xs ys
past_if true es s ts us xs ys e = absurd (cc)
past_if false es s ts us xs ys e = refl

local_if : (v : Bool) (es : Edits) (s : Shift) (ts us xs ys : Trees) → v ≡ false → AreLocal es s xs ys → AreLocal es s (if v then ts else xs) (if v then us else ys)
local_if true es s ts us xs ys e h = absurd (cc)
local_if false es s ts us xs ys e h = h

holder_past : (p : Shift) (at to opens was now closes long_was long_now : ℕ) → MovesBy p ((at + opens) + was) ((to + opens) + now)
    → long_was ≡ (opens + was) + closes → long_now ≡ (opens + now) + closes → MovesBy p (at + long_was) (to + long_now)
holder_past p at to opens was now closes long_was long_now h e f = omega (arith, h, e, f)

holder_local : (l k j : Label) (ts us : Trees) (es : Edits) (n m at to : ℕ) (s : Shift) → is_leaf l.kind ≡ false → is_group l.kind ≡ false → MovesBy s at to
    → AreLocalNodes es s ts us (next_after l.kind n) (next_after l.kind m) (at + length l.opening) (to + length l.opening)
    → IsLocalNode (round k j es) s (tree l ts) (tree l us) n m at to
holder_local l k j ts us es n m at to s leaf group h inner =
    let xs : Trees = all_settled (next_after l.kind n) (at + length l.opening) ts in
    let ys : Trees = all_settled (next_after l.kind m) (to + length l.opening) us in
    let p : past_nodes es s (if is_group l.kind then ts else xs) (if is_group l.kind then us else ys) ≡ past_nodes es s xs ys =
    past_if (is_group l.kind) es s ts us xs ys group in
    let end : MovesBy (past_nodes es s xs ys) (at + length (flat (tree l ts))) (to + length (flat (tree l us))) =
    holder_past (past_nodes es s xs ys) at to (length l.opening) (length (flat_of_all ts)) (length (flat_of_all us)) (length l.closing)
    (length (flat (tree l ts))) (length (flat (tree l us))) inner.1 (holder_size l ts leaf) (holder_size l us leaf) in
    let past : MovesBy (past_nodes es s (if is_group l.kind then ts else xs) (if is_group l.kind then us else ys)) (at + length (flat (tree l ts))) (to + length (flat (tree l us))) =
    subst (λ (q : Shift). MovesBy q (at + length (flat (tree l ts))) (to + length (flat (tree l us)))) (sym p) end in (
      (
        refl,
        record { start = h; end = past; open_w = refl; close_w = refl },
        local_if (is_group l.kind) es s ts us xs ys group inner.0,
      ),
      past,
    )

-- ---- all of them

-- The block for which an edit is sent is one of its kind, and any other is the same.
pub record AreBlocksFor (o : ℕ → Option Edited) (b c : ℕ → Tree) : Type 0 where
  pub sent : (n : ℕ) → IsKindredBlock (b n) (c n)
  pub same : (n : ℕ) → o n ≡ None → b n ≡ c n

block_local : (o : ℕ → Option Edited) (b c : ℕ → Tree) → AreBlocksFor o b c → (i : ℕ) (e : Edited) (d : Option Edited) → o i ≡ d → BlockSent d e → (n m at to : ℕ) (s : Shift)
    → MovesBy s at to → IsLocalNode e s (b i) (c i) n m at to
block_local o b c h i (stays t u) None is p n m at to s g = stay_local t u (b i) (c i) n m at to s g (h.same i is)
block_local o b c h i (edited k l x ps) None is p n m at to s g = absurd p
block_local o b c h i (round l x es) None is p n m at to s g = absurd p
block_local o b c h i (stays t u) (Some d) is p n m at to s g = absurd p
block_local o b c h i (edited k l x ps) (Some d) is p n m at to s g = (
  (block_kindred (b i) (c i) n m at to (h.sent i).kindred, block_moves (b i) (c i) n m at to s (h.sent i) g),
  block_past s at to (length (flat (b i))) (length (flat (c i))) (length (flat (settled n at (b i)))) (length (flat (settled m to (c i)))) g
      (settled_size n at (b i)) (settled_size m to (c i)),
)
block_local o b c h i (round l x es) (Some d) is p n m at to s g = absurd p

behind_both : (p : Shift) (at to was now more_was more_now long_was long_now : ℕ) → MovesBy p ((at + was) + more_was) ((to + now) + more_now)
    → long_was ≡ was + more_was → long_now ≡ now + more_now → MovesBy p (at + long_was) (to + long_now)
behind_both p at to was now more_was more_now long_was long_now h e f = omega (arith, h, e, f)

mutual
  local : (o : ℕ → Option Edited) (b c : ℕ → Tree) → AreBlocksFor o b c → (f : TreeFrame) (e : Edited) (q : Part) → NoLeaves f → IsHolder f q → Sends o f e
      → (n m at to : ℕ) (s : Shift) → MovesBy s at to → IsLocalNode e s (filled b f) (filled c f) n m at to
  local o b c h (spot i) e q w g p n m at to s k = block_local o b c h i e (o i) refl p n m at to s k
  local o b c h (kept t) (stays u v) q w g p n m at to s k = stay_local u v t t n m at to s k refl
  local o b c h (kept t) (edited j l x ps) q w g p n m at to s k = absurd p
  local o b c h (kept t) (round l x es) q w g p n m at to s k = absurd p
  local o b c h (holder l fs) (stays u v) q w g p n m at to s k =
      stay_local u v (tree l (all_filled b fs)) (tree l (all_filled c fs)) n m at to s k (ap (tree l) (all_filled_kept o b c h.same fs p))
  local o b c h (holder l fs) (edited j x y ps) q w g p n m at to s k = absurd p
  local o b c h (holder l fs) (round x y es) q w g p n m at to s k =
      holder_local l x y (all_filled b fs) (all_filled c fs) es n m at to s w.0 (no_group_round q g.0 l.kind g.1) k
      (all_local o b c h fs es g.0 w.1 g.2 p (next_after l.kind n) (next_after l.kind m) (at + length l.opening) (to + length l.opening) s (later s at to (length l.opening) k))

  pub all_local : (o : ℕ → Option Edited) (b c : ℕ → Tree) → AreBlocksFor o b c → (fs : TreeFrames) (es : Edits) (q : Part) → NoneLeaves fs → AreHolders fs q → AllSend o fs es
      → (n m at to : ℕ) (s : Shift) → MovesBy s at to → AreLocalNodes es s (all_filled b fs) (all_filled c fs) n m at to
  all_local o b c h no_nodes no_edits q w g p n m at to s k = (tt, omega (arith, k))
  all_local o b c h no_nodes (more_edits e es) q w g p n m at to s k = absurd p
  all_local o b c h (more_nodes f fs) no_edits q w g p n m at to s k = absurd p
  all_local o b c h (more_nodes f fs) (more_edits e es) q w g p n m at to s k =
      let v : Tree = filled b f in
      let x : Tree = filled c f in
      let one : IsLocalNode e s v x n m at to = local o b c h f e q w.0 g.0 p.0 n m at to s k in
      let past : Shift = past_node e s (settled n at v) (settled m to x) in
      let rest = all_local o b c h fs es q w.1 g.1 p.1 (n + count v) (m + count x) (at + length (flat v)) (to + length (flat x)) past one.1 in (
        (one.0, rest.0),
        behind_both (past_nodes es past (all_settled (n + count v) (at + length (flat v)) (all_filled b fs)) (all_settled (m + count x) (to + length (flat x)) (all_filled c fs)))
            at to (length (flat v)) (length (flat x)) (length (flat_of_all (all_filled b fs))) (length (flat_of_all (all_filled c fs)))
            (length (flat_of_all (more v (all_filled b fs)))) (length (flat_of_all (more x (all_filled c fs)))) rest.1 (both_size v (all_filled b fs)) (both_size x (all_filled c fs)),
      )
