-- A walk over elements, one after another.
use Rattle.std.proofs.Common.{◌≡◌, ℕ, zero, suc, ◌+◌, ◌<◌, ◌^◌, Bool, true, false, Option, Some, None, Result, Ok, Err, List, [], ◌∷◌, ◌++◌, refl, sym, ap, ap₂, ◌∙◌, arith, subst, drop}
use Rattle.std.specs.Prelude.{◌||◌, if◌then◌else◌, length, is_some, slice_get}
use Rattle.std.specs.Option.{option_or, option_map}
use Rattle.wt_tree.specs.declared.kind.Kind.{Kind}
use Rattle.wt_tree.specs.Tree.{tree}
use Rattle.wt_tree.specs.View.{views}
use Rattle.wt_tree.specs.declared.node.Node.{Node}
use Rattle.wt_html_grammar.specs.Markup.{Pair, Markup, Markups, text, node, empty, more}
use Rattle.wt_html_elements.specs.declared.content.Content.{Content}
use Rattle.wt_html_elements.specs.Built.{views as markups}
use Rattle.wt_schema.specs.declared.standing.Standing.{Standing}
use Rattle.wt_schema.specs.declared.standing.Standing.TheVariants as stands
use Rattle.wt_schema.specs.Groups.{Piece, single, gathered, standing, is_grouped, is_dropped, open_after}
use Rattle.wt_schema.specs.Fit.{Misfit, Position as Place, within, onto, onto_told, with_children, is_block_element, behind_it, elements, elements_of_all, row_as, leaf_in, fit_row, fit_text, fit_node, fit_nodes}
use Rattle.wt_schema.specs.Unsourced.{lacks_source, unsourced_as, unsourced_nodes}
use Rattle.wt_html_nodes.specs.Texts.{is_utf8_markup, are_utf8_markups}
use Rattle.wt_html_nodes.specs.declared.fault.FitFault.{FitFault}
use Rattle.wt_html_nodes.specs.declared.fault.FitFault.TheVariants as faults
use Rattle.wt_html_nodes.specs.declared.head.Headed.{Headed}
use Rattle.wt_html_nodes.specs.declared.head.Position.{Position}
use Rattle.wt_html_in.specs.declared.walk.Traversal.{Traversal}
use Rattle.wt_html_in.specs.declared.walk.Converted.{Converted}
use Rattle.wt_html_in.specs.declared.roles.Role.{Role}
use Rattle.wt_html_in.specs.declared.roles.Role.TheVariants as are
use Rattle.wt_html_in.specs.Roles.{text_role, role_at, roles, standing_in, text_piece}
use Rattle.wt_html_in.specs.Gathering.{gathered_with}
use Rattle.wt_html_nodes.specs.Heads.{label_of_head, piece_by, made_by, RowFits, spot_with}
use Rattle.wt_html_in.specs.Fits.{held_in, unsourced_here, unsourced_among, unsourced_one, Passed, piece_of, is_block_piece, FitsPiece, FitsNodes}
use Rattle.wt_html_in.proofs.Blocks.{block_made, node_moves}
use Rattle.wt_html_in.proofs.Pieces.{listed, ends_open, append_none, gathered_add, follows, stays_open}
use Rattle.wt_html_nodes.proofs.Values.{and_right}

-- pieces that were made, before what is still to come
abbrev pub ontos : List Piece → Result (List Piece) Misfit → Result (List Piece) Misfit
ontos [] r = r
ontos (x ∷ xs) r = onto x (ontos xs r)

ontos_push : (xs : List Piece) (x : Piece) (r : Result (List Piece) Misfit) → ontos (xs ++ x ∷ []) r ≡ ontos xs (onto x r)
ontos_push [] x r = refl
ontos_push (y ∷ ys) x r = ap (onto y) (ontos_push ys x r)

ontos_ok : (xs : List Piece) → ontos xs (Ok []) ≡ Ok xs
ontos_ok [] = refl
ontos_ok (x ∷ xs) = ap (onto x) (ontos_ok xs)

ontos_err : (xs : List Piece) (e : Misfit) → ontos xs (Err e) ≡ Err e
ontos_err [] e = refl
ontos_err (x ∷ xs) e = ap (onto x) (ontos_err xs e)

ontos_add : (xs : List Piece) (o : Option Piece) (r : Result (List Piece) Misfit) → ontos (xs ++ listed o) r ≡ ontos xs (onto_told (Ok o) r)
ontos_add xs None r = ap (λ ys. ontos ys r) (append_none xs)
ontos_add xs (Some x) r = ontos_push xs x r

or_assoc : (a b c : Option ℕ) → option_or (option_or a b) c ≡ option_or a (option_or b c)
or_assoc None b c = refl
or_assoc (Some n) b c = refl

or_none : (a : Option ℕ) → option_or a None ≡ a
or_none None = refl
or_none (Some n) = refl

pub here_or : (t : Bool) (n : ℕ) (o : Option ℕ) → option_or (if t then Some n else None) o ≡ (if t then Some n else o)
here_or true n o = refl
here_or false n o = refl

among_more : (i : Bool) (n : ℕ) (g : Option (List ℕ)) (t : Markup) (ts : Markups)
    → unsourced_among i n g (more t ts) ≡ option_or (unsourced_one i n g t) (unsourced_among i (n + elements t) (open_after g t ts) ts)
among_more true n g t ts = refl
among_more false n g t ts = refl

among_none : (i : Bool) (n : ℕ) (g : Option (List ℕ)) → unsourced_among i n g empty ≡ None
among_none true n g = refl
among_none false n g = refl

-- in a parent of this kind, in a group or not, behind a block or not, and with this group open
abbrev pub at : Kind → Bool → Bool → Option (List ℕ) → Place
at k i b g = record { parent = k; inside = i; behind = b; group = g }

-- A walk over all of these has come so far, behind a block or not: these nodes are made, and the rest
-- with these roles is still to come.
pub record Going (w : Traversal) (k : Kind) (i : Bool) (all : Markups) (ns : List Node) (v : Traversal) (b : Bool) (rs : List Role) (rest : Markups) : Type 0 where
  pub group : Option (List ℕ)
  pub done : List Piece
  pub gathers : gathered done ≡ views ns
  pub opens : is_some group ≡ true → ends_open false done ≡ true
  pub fits : ontos done (fit_nodes v.next (at k i b group) rest) ≡ fit_nodes w.next (within k i) all
  pub count : v.next + elements_of_all rest ≡ w.next + elements_of_all all
  pub unsourced : option_or v.unsourced (unsourced_among i v.next group rest) ≡ option_or w.unsourced (unsourced_among i w.next None all)
  pub few : v.next + elements_of_all rest < 2 ^ 32
  pub utf8 : are_utf8_markups rest ≡ true
  pub roles_are : rs ≡ roles group rest

pub going_start : (w : Traversal) (k : Kind) (i : Bool) (all : Markups) (ns : List Node) (b : Bool) (rs : List Role) → ns ≡ [] → b ≡ false → rs ≡ roles None all
    → w.next + elements_of_all all < 2 ^ 32 → are_utf8_markups all ≡ true → Going w k i all ns w b rs all
going_start w k i all ns b rs e f r l u =
    record {
      group = None;
      done = [];
      gathers = sym (ap views e);
      opens = λ g. cc;
      fits = ap (λ x. fit_nodes w.next (at k i x None) all) f;
      count = refl;
      unsourced = refl;
      few = l;
      utf8 = u;
      roles_are = r;
    }

-- the role at a place is the first of the rest
pub role_first : (rs : List Role) (n : ℕ) (r q : Role) (qs : List Role) → slice_get rs n ≡ Some r → drop n rs ≡ q ∷ qs → r ≡ q
role_first [] zero r q qs e f = cc
role_first [] (suc n) r q qs e f = cc
role_first (x ∷ xs) zero r q qs e f = cc
role_first (x ∷ xs) (suc n) r q qs e f = role_first xs n r q qs e f

role_behind : (rs : List Role) (n : ℕ) (q : Role) (qs : List Role) → drop n rs ≡ q ∷ qs → drop (suc n) rs ≡ qs
role_behind [] zero q qs f = cc
role_behind [] (suc n) q qs f = cc
role_behind (x ∷ xs) zero q qs f = cc
role_behind (x ∷ xs) (suc n) q qs f = role_behind xs n q qs f

pub role_rest : (rs : List Role) (n : ℕ) (q : Role) (qs : List Role) → drop n rs ≡ q ∷ qs → drop (n + 1) rs ≡ qs
role_rest rs n q qs f = let next : n + 1 ≡ suc n = omega arith in ap (λ m. drop m rs) next ∙ role_behind rs n q qs f

pub role_there : (rs : List Role) (n : ℕ) (q : Role) (qs : List Role) → drop n rs ≡ q ∷ qs → n < length rs
role_there [] zero q qs f = cc
role_there [] (suc n) q qs f = cc
role_there (x ∷ xs) zero q qs f = omega arith
role_there (x ∷ xs) (suc n) q qs f = let h = role_there xs n q qs f in omega (arith, h)

pub going_role : (w : Traversal) (k : Kind) (i : Bool) (all : Markups) (ns : List Node) (v : Traversal) (b : Bool) (rs : List Role) (n : ℕ) (t : Markup) (ts : Markups)
    → Going w k i all ns v b (drop n rs) (more t ts) → n < length rs
going_role w k i all ns v b rs n t ts g = role_there rs n (role_at g.group t ts) (roles (open_after g.group t ts) ts) g.roles_are

pub going_on : (w : Traversal) (k : Kind) (i : Bool) (all : Markups) (ns ms : List Node) (v u : Traversal) (b d : Bool) (rs : List Role) (n : ℕ) (r : Role) (s : Position)
    (t : Markup) (ts : Markups) (o : Converted)
    → Going w k i all ns v b (drop n rs) (more t ts) → slice_get rs n ≡ Some r → s.outer ≡ k → s.inside ≡ i → s.behind ≡ b
    → FitsPiece v s r t u (Ok o) → d ≡ (b || is_block_piece (piece_of o)) → views ms ≡ gathered_with (views ns) (piece_of o)
    → Going w k i all ms u d (drop (n + 1) rs) ts
going_on w k i all ns ms v u b d rs n r s t ts o g e x y z f h m =
    let c = g.group in
    let x' : Place = at k i b c in
    let q : r ≡ role_at c t ts = role_first rs n r (role_at c t ts) (roles (open_after c t ts) ts) e g.roles_are in
    let told = f c ts q in
    let same : spot_with s c ≡ x' = rw (x, y, z) refl in
    let fit : fit_node v.next x' t ts ≡ Ok (piece_of o) = ap (λ p. fit_node v.next p t ts) (sym same) ∙ told.0 in
    let next : u.next ≡ v.next + elements t = told.1.next in
    let moves = node_moves v.next x' t ts (piece_of o) fit in
    let block : d ≡ (b || is_block_element c t) = h ∙ ap (λ p. b || p) (sym (block_made v.next x' t ts (piece_of o) fit)) in
    record {
      group = open_after c t ts;
      done = g.done ++ listed (piece_of o);
      gathers = gathered_add g.done (piece_of o) (follows c (open_after c t ts) g.done (piece_of o) moves g.opens)
          ∙ ap (λ p. gathered_with p (piece_of o)) g.gathers ∙ sym m;
      opens = stays_open c (open_after c t ts) g.done (piece_of o) moves g.opens;
      fits = ontos_add g.done (piece_of o) (fit_nodes u.next (at k i d (open_after c t ts)) ts)
          ∙ ap₂ (λ p q. ontos g.done (onto_told (Ok (piece_of o)) (fit_nodes p (at k i q (open_after c t ts)) ts))) next block
          ∙ ap (λ p. ontos g.done (onto_told p (fit_nodes (v.next + elements t) (behind_it x' t ts) ts))) (sym fit)
          ∙ g.fits;
      count = omega (arith, g.count, next);
      unsourced = ap (λ p. option_or u.unsourced (unsourced_among i p (open_after c t ts) ts)) next
          ∙ ap (λ p. option_or p (unsourced_among i (v.next + elements t) (open_after c t ts) ts)) told.1.unsourced
          ∙ or_assoc v.unsourced (unsourced_one s.inside v.next c t) (unsourced_among i (v.next + elements t) (open_after c t ts) ts)
          ∙ ap (λ p. option_or v.unsourced (option_or (unsourced_one p v.next c t) (unsourced_among i (v.next + elements t) (open_after c t ts) ts))) y
          ∙ ap (option_or v.unsourced) (sym (among_more i v.next c t ts))
          ∙ g.unsourced;
      few = omega (arith, g.few, next);
      utf8 = and_right (is_utf8_markup t) (are_utf8_markups ts) g.utf8;
      roles_are = role_rest rs n (role_at c t ts) (roles (open_after c t ts) ts) g.roles_are;
    }

pub going_end : (w : Traversal) (k : Kind) (i : Bool) (all : Markups) (ns : List Node) (v : Traversal) (b : Bool) (rs : List Role)
    → Going w k i all ns v b rs empty → FitsNodes w k i all v (Ok ns)
going_end w k i all ns v b rs g = (
  g.done,
  sym g.fits ∙ ontos_ok g.done,
  g.gathers,
  record {
    next = omega (arith, g.count);
    unsourced = sym (ap (option_or v.unsourced) (among_none i v.next g.group) ∙ or_none v.unsourced) ∙ g.unsourced;
  },
)

pub going_err : (w : Traversal) (k : Kind) (i : Bool) (all : Markups) (ns : List Node) (v u z : Traversal) (b : Bool) (rs : List Role) (n : ℕ) (r : Role) (s : Position)
    (t : Markup) (ts : Markups) (e : FitFault)
    → Going w k i all ns v b (drop n rs) (more t ts) → slice_get rs n ≡ Some r → s.outer ≡ k → s.inside ≡ i → s.behind ≡ b
    → FitsPiece v s r t u (Err e) → FitsNodes w k i all z (Err e)
going_err w k i all ns v u z b rs n r s t ts (faults.Unfit m y) g e c d h f =
    let q : r ≡ role_at g.group t ts = role_first rs n r (role_at g.group t ts) (roles (open_after g.group t ts) ts) e g.roles_are in
    let same : spot_with s g.group ≡ at k i b g.group = rw (c, d, h) refl in
    sym g.fits
    ∙ ap (λ p. ontos g.done (onto_told p (fit_nodes (v.next + elements t) (behind_it (at k i b g.group) t ts) ts)))
    (ap (λ p. fit_node v.next p t ts) (sym same) ∙ f g.group ts q)
    ∙ ontos_err g.done (m, y)
going_err w k i all ns v u z b rs n r s t ts faults.NoMemory g e c d h f = tt

-- ---- a text

text_as : (s : Position) (r : Role) (bs : List ℕ) (g : Option (List ℕ)) (ts : Markups) → r ≡ text_role g bs ts
    → text_piece r s.outer bs ≡ fit_text (spot_with s g) bs ts
text_as s r bs g ts e = ap (λ p. text_piece p s.outer bs) e ∙ by_test (is_dropped g bs ts)
  where
    by_test : (d : Bool) → text_piece (if d then are.Gap else are.Text) s.outer bs ≡ (if d then None else option_map single (leaf_in s.outer bs))
    by_test true = refl
    by_test false = refl

one_text : (i : Bool) (n : ℕ) (g : Option (List ℕ)) (bs : List ℕ) → unsourced_one i n g (text bs) ≡ None
one_text true n g bs = refl
one_text false n g bs = refl

pub text_ok : (w : Traversal) (s : Position) (r : Role) (bs : List ℕ) (o : Converted) → piece_of o ≡ text_piece r s.outer bs → FitsPiece w s r (text bs) w (Ok o)
text_ok w s r bs o e = λ g ts q. (
  ap Ok (sym (e ∙ text_as s r bs g ts q)),
  record {
    next = omega arith;
    unsourced = sym (ap (option_or w.unsourced) (one_text s.inside w.next g bs) ∙ or_none w.unsourced);
  },
)

-- ---- an element, by what it is and by what stands in it

abbrev pub Begun : Traversal → Position → Standing → List ℕ → List Pair → Markups → Result Headed FitFault → Type 0
Begun w s z name ps c r = RowFits (s.inside || is_grouped z) (λ group held. fit_row w.next (spot_with s group) z (row_as z name ps) ps c held) r

-- the element as if it stood so
abbrev stood : ℕ → Position → Option (List ℕ) → Standing → List ℕ → List Pair → Markups → Result (Option Piece) Misfit
stood n s g z name ps c =
    fit_row n (spot_with s g) z (row_as z name ps) ps c (λ k. fit_nodes (suc n) (within k (s.inside || is_grouped z)) c)

abbrev passed_as : Bool → Standing → ℕ → List ℕ → List Pair → Markups → Option ℕ
passed_as true z n name ps c = None
passed_as false z n name ps c = unsourced_as z n (lacks_source name ps) (unsourced_nodes (suc n) None c)

passed_element : (i : Bool) (z : Standing) (n : ℕ) (name : List ℕ) (ps : List Pair) (c : Markups)
    → option_or (unsourced_here i z n name ps) (unsourced_among (i || is_grouped z) (suc n) None c) ≡ passed_as i z n name ps c
passed_element true stands.Alone n name ps c = refl
passed_element true stands.First n name ps c = refl
passed_element true stands.Further n name ps c = refl
passed_element true stands.Astray n name ps c = refl
passed_element false stands.Alone n name ps c = here_or (lacks_source name ps) n (unsourced_nodes (suc n) None c)
passed_element false stands.First n name ps c = or_none (if lacks_source name ps then Some n else None)
passed_element false stands.Further n name ps c = refl
passed_element false stands.Astray n name ps c = here_or (lacks_source name ps) n (unsourced_nodes (suc n) None c)

one_element : (i : Bool) (n : ℕ) (g : Option (List ℕ)) (name : List ℕ) (ps : List Pair) (c : Markups)
    → unsourced_one i n g (node name ps c) ≡ passed_as i (standing g ps) n name ps c
one_element true n g name ps c = refl
one_element false n g name ps c = refl

stood_is : (w v : Traversal) (s : Position) (g : Option (List ℕ)) (z : Standing) (name : List ℕ) (ps : List Pair) (c : Markups) (h : Headed)
    → Begun w s z name ps c (Ok h) → v.next ≡ w.next + 1
    → stood w.next s g z name ps c
    ≡ made_by h (with_children (s.inside || is_grouped z) h.head.kind (label_of_head h.head)
    (fit_nodes v.next (within h.head.kind (s.inside || is_grouped z)) c))
stood_is w v s g z name ps c h f e =
    let j = s.inside || is_grouped z in
    let next : suc w.next ≡ v.next = omega (arith, e) in
    f g (λ k. fit_nodes (suc w.next) (within k j) c)
    ∙ ap (λ n. made_by h (with_children j h.head.kind (label_of_head h.head) (fit_nodes n (within h.head.kind j) c))) next

pub element_ok : (w v u : Traversal) (s : Position) (r : Role) (z : Standing) (name : List ℕ) (ps : List Pair) (c : Markups) (h : Headed)
    (ns : List Node) (o : Converted)
    → z ≡ standing_in r → Begun w s z name ps c (Ok h) → Passed w v 1 (unsourced_here s.inside z w.next name ps)
    → FitsNodes v h.head.kind (s.inside || is_grouped z) c u (Ok ns)
    → piece_of o ≡ Some (piece_by h.group h.standing (tree (label_of_head h.head) (held_in (s.inside || is_grouped z) h.head.kind (views ns))))
    → FitsPiece w s r (node name ps c) u (Ok o)
element_ok w v u s r z name ps c h ns o y f p g m = λ group ts q.
    let j = s.inside || is_grouped z in
    let is : z ≡ standing group ps = y ∙ ap standing_in q in (
      ap (λ x. stood w.next s group x name ps c) (sym is)
          ∙ stood_is w v s group z name ps c h f p.next
          ∙ ap (λ x. made_by h (with_children j h.head.kind (label_of_head h.head) x)) g.1
          ∙ ap (λ x. made_by h (Ok (tree (label_of_head h.head) (held_in j h.head.kind x)))) g.2
          ∙ ap Ok (sym m),
      record {
        next = omega (arith, p.next, g.3.next);
        unsourced = g.3.unsourced
            ∙ ap (λ x. option_or x (unsourced_among j v.next None c)) p.unsourced
            ∙ or_assoc w.unsourced (unsourced_here s.inside z w.next name ps) (unsourced_among j v.next None c)
            ∙ ap (λ x. option_or w.unsourced (option_or (unsourced_here s.inside z w.next name ps) (unsourced_among j x None c)))
            (let next : v.next ≡ suc w.next = omega (arith, p.next) in next)
            ∙ ap (option_or w.unsourced) (passed_element s.inside z w.next name ps c)
            ∙ ap (λ x. option_or w.unsourced (passed_as s.inside x w.next name ps c)) is
            ∙ ap (option_or w.unsourced) (sym (one_element s.inside w.next group name ps c));
      },
    )

pub element_misfit : (w x : Traversal) (s : Position) (r : Role) (z : Standing) (name : List ℕ) (ps : List Pair) (c : Markups) (e : FitFault)
    → z ≡ standing_in r → Begun w s z name ps c (Err e) → FitsPiece w s r (node name ps c) x (Err e)
element_misfit w x s r z name ps c (faults.Unfit n y) a f = λ group ts q.
    ap (λ p. stood w.next s group p name ps c) (sym (a ∙ ap standing_in q))
    ∙ f group (λ k. fit_nodes (suc w.next) (within k (s.inside || is_grouped z)) c)
element_misfit w x s r z name ps c faults.NoMemory a f = tt

pub element_inside : (w v u x : Traversal) (s : Position) (r : Role) (z : Standing) (name : List ℕ) (ps : List Pair) (c : Markups) (h : Headed) (e : FitFault)
    → z ≡ standing_in r → Begun w s z name ps c (Ok h) → Passed w v 1 (unsourced_here s.inside z w.next name ps)
    → FitsNodes v h.head.kind (s.inside || is_grouped z) c u (Err e) → FitsPiece w s r (node name ps c) x (Err e)
element_inside w v u x s r z name ps c h (faults.Unfit n y) a f p g = λ group ts q.
    ap (λ p. stood w.next s group p name ps c) (sym (a ∙ ap standing_in q))
    ∙ stood_is w v s group z name ps c h f p.next
    ∙ ap (λ p. made_by h (with_children (s.inside || is_grouped z) h.head.kind (label_of_head h.head) p)) g
element_inside w v u x s r z name ps c h faults.NoMemory a f p g = tt

-- no memory
pub piece_memory : (w x : Traversal) (s : Position) (r : Role) (m : Markup) (e : FitFault) → e ≡ faults.NoMemory → FitsPiece w s r m x (Err e)
piece_memory w x s r m e h = let P : FitFault → Type 0 = λ f. FitsPiece w s r m x (Err f) in subst P (sym h) tt

pub nodes_memory : (w x : Traversal) (k : Kind) (i : Bool) (ms : Markups) (e : FitFault) → e ≡ faults.NoMemory → FitsNodes w k i ms x (Err e)
nodes_memory w x k i ms e h = let P : FitFault → Type 0 = λ f. FitsNodes w k i ms x (Err f) in subst P (sym h) tt

-- the same, seen in other words
pub begun_by : (w : Traversal) (s : Position) (z : Standing) (name name' : List ℕ) (ps ps' : List Pair) (c : Markups) (n : ℕ) (r : Result Headed FitFault)
    → name' ≡ name → ps' ≡ ps → n ≡ w.next
    → RowFits (s.inside || is_grouped z) (λ group held. fit_row n (spot_with s group) z (row_as z name' ps') ps' c held) r → Begun w s z name ps c r
begun_by w s z name name' ps ps' c n r a b e h = rw (sym a, sym b, sym e) h

pub within_at : (w v : Traversal) (k : Kind) (i j : Bool) (ms : Markups) (r : Result (List Node) FitFault) → j ≡ i → FitsNodes w k j ms v r → FitsNodes w k i ms v r
within_at w v k i j ms r e h = let P : Bool → Type 0 = λ b. FitsNodes w k b ms v r in subst P e h

pub begun_at : (w : Traversal) (s : Position) (z : Standing) (name : List ℕ) (ps : List Pair) (xs ys : List Content) (r : Result Headed FitFault) → xs ≡ ys
    → Begun w s z name ps (markups xs) r → Begun w s z name ps (markups ys) r
begun_at w s z name ps xs ys r e h = let P : List Content → Type 0 = λ zs. Begun w s z name ps (markups zs) r in subst P e h

pub piece_at : (w v : Traversal) (s : Position) (q : Role) (m n : Markup) (r t : Result Converted FitFault) → m ≡ n → r ≡ t
    → FitsPiece w s q n v t → FitsPiece w s q m v r
piece_at w v s q m n r t e f h = rw (e, f) h

pub nodes_at : (w v : Traversal) (k : Kind) (i : Bool) (ms : Markups) (r s : Result (List Node) FitFault) → r ≡ s → FitsNodes w k i ms v s → FitsNodes w k i ms v r
nodes_at w v k i ms r s f h = rw f h

pub going_at : (w : Traversal) (k : Kind) (i : Bool) (ns ms : List Node) (v : Traversal) (b : Bool) (rs : List Role) (cs bs xs ys : List Content)
    → ms ≡ ns → bs ≡ cs → ys ≡ xs
    → Going w k i (markups cs) ns v b rs (markups xs) → Going w k i (markups bs) ms v b rs (markups ys)
going_at w k i ns ms v b rs cs bs xs ys d e f h = rw (d, e, f) h

pub no_items : {A : Type 0} (xs : List A) → length xs ≡ 0 → xs ≡ []
no_items [] e = refl
no_items (x ∷ xs) e = absurd (omega (arith, e))
