-- Labels and kinds of elements, by what is gathered of them.
use Rattle.std.proofs.Common.{◌≡◌, ◌≤◌, [], ◌∷◌, length, arith, ℕ, Bool, true, false, Option, Some, None, Result, Ok, Err, List, refl, sym, ap, ap₂, ◌∙◌, subst}
use Rattle.std.specs.Prelude.{◌||◌}
use Rattle.wt_tree.specs.declared.kind.Kind.{Kind}
use Rattle.wt_tree.specs.declared.kind.Kind.TheVariants as kind
use Rattle.wt_tree.specs.Tree.{Tree}
use Rattle.wt_html_grammar.specs.Markup.{Pair, Markups}
use Rattle.wt_html_elements.specs.declared.content.Content.{Content}
use Rattle.wt_html_elements.specs.Built.{views}
use Rattle.wt_html_grammar.proofs.Steps.{if_true}
use Rattle.wt_schema.specs.declared.why.FitWhy.TheVariants as why
use Rattle.wt_schema.specs.declared.standing.Standing.{Standing}
use Rattle.wt_schema.specs.declared.standing.Standing.TheVariants as stands
use Rattle.wt_schema.specs.Groups.{Piece, begun, is_grouped, is_none, own_pairs, pairs_for}
use Rattle.wt_schema.specs.Rows.{row}
use Rattle.wt_schema.specs.Data.{Data, no_data, data_for}
use Rattle.wt_schema.specs.Fit.{Misfit, Position as Place, texts_in, label_for, label_as, group_label, piece_as, with_children, one_piece, row_as, fits_place, text_fits, fit_told, fit_as, fit_row, fit_body_told, body_data}
use Rattle.wt_html_nodes.specs.declared.fault.FitFault.{FitFault}
use Rattle.wt_html_nodes.specs.declared.fault.FitFault.TheVariants as faults
use Rattle.wt_html_nodes.specs.declared.head.Head.{Head}
use Rattle.wt_html_nodes.specs.declared.head.Headed.{Headed}
use Rattle.wt_html_nodes.specs.declared.head.Position.{Position}
use Rattle.wt_html_nodes.specs.Heads.{label_of_head, IsHeadOf, is_first, IsGroupHead, IsHeadedAs, piece_by, made_by, HeadFits, RowFits, BodyFits, spot_with}

-- ---- the attributes of an element's own

pub first_pairs : (s : Standing) (ps : List Pair) → is_first s ≡ true → own_pairs ps ≡ pairs_for s ps
first_pairs stands.Alone ps e = cc
first_pairs stands.First ps e = refl
first_pairs stands.Further ps e = cc
first_pairs stands.Astray ps e = cc

pub other_pairs : (s : Standing) (ps : List Pair) → is_first s ≡ false → ps ≡ pairs_for s ps
other_pairs stands.Alone ps e = refl
other_pairs stands.First ps e = cc
other_pairs stands.Further ps e = refl
other_pairs stands.Astray ps e = refl

-- ---- what an element is, by how it stands

pub first_headed : (s : Standing) (k : Kind) (ps qs : List Pair) (d : Data) (shown : List ℕ) (g h : Head) (r : Headed) → is_first s ≡ true
    → qs ≡ pairs_for s ps → label_of_head g ≡ group_label ps d → IsHeadOf k qs no_data shown h
    → r.standing ≡ s → r.group ≡ Some g → r.head ≡ h → IsHeadedAs s k ps d shown r
first_headed stands.Alone k ps qs d shown g h r t e f o a b c = cc
first_headed stands.First k ps qs d shown g h r t e f o a b c =
    record {
      standing = a;
      kind = ap (λ (x : Head). x.kind) c ∙ o.kind;
      label = ap label_of_head c ∙ o.label ∙ ap (λ xs. label_for k xs no_data shown) e;
      group = (g, b, f);
    }
first_headed stands.Further k ps qs d shown g h r t e f o a b c = cc
first_headed stands.Astray k ps qs d shown g h r t e f o a b c = cc

pub other_headed : (s : Standing) (k : Kind) (ps qs : List Pair) (d : Data) (shown : List ℕ) (h : Head) (r : Headed) → is_first s ≡ false
    → qs ≡ pairs_for s ps → IsHeadOf k qs d shown h → r.standing ≡ s → r.group ≡ None → r.head ≡ h → IsHeadedAs s k ps d shown r
other_headed stands.Alone k ps qs d shown h r t e o a b c =
    record {
      standing = a;
      kind = ap (λ (x : Head). x.kind) c ∙ o.kind;
      label = ap label_of_head c ∙ o.label ∙ ap (λ xs. label_for k xs d shown) e;
      group = b;
    }
other_headed stands.First k ps qs d shown h r t e o a b c = cc
other_headed stands.Further k ps qs d shown h r t e o a b c =
    record {
      standing = a;
      kind = ap (λ (x : Head). x.kind) c ∙ o.kind;
      label = ap label_of_head c ∙ o.label ∙ ap (λ xs. label_for k xs d shown) e;
      group = b;
    }
other_headed stands.Astray k ps qs d shown h r t e o a b c =
    record {
      standing = a;
      kind = ap (λ (x : Head). x.kind) c ∙ o.kind;
      label = ap label_of_head c ∙ o.label ∙ ap (λ xs. label_for k xs d shown) e;
      group = b;
    }

-- the piece that its node is
piece_is : (s : Standing) (ps : List Pair) (d : Data) (h : Headed) (t : Tree) → h.standing ≡ s → IsGroupHead s ps d h.group
    → piece_as s ps d t ≡ piece_by h.group h.standing t
piece_is stands.Alone ps d h t e g = sym (ap₂ (λ x y. piece_by x y t) g e)
piece_is stands.First ps d h t e (x, i, l) = sym (ap (λ o. piece_by o h.standing t) i ∙ ap (λ z. begun z t) l)
piece_is stands.Further ps d h t e g = sym (ap₂ (λ x y. piece_by x y t) g e)
piece_is stands.Astray ps d h t e g = sym (ap₂ (λ x y. piece_by x y t) g e)

made_is : (s : Standing) (k : Kind) (ps : List Pair) (d : Data) (shown : List ℕ) (h : Headed) (r : Result Tree Misfit) → IsHeadedAs s k ps d shown h
    → one_piece s ps d r ≡ made_by h r
made_is s k ps d shown h (Ok t) o = ap (λ x. Ok (Some x)) (piece_is s ps d h t o.standing o.group)
made_is s k ps d shown h (Err e) o = refl

-- good data and texts
pub headed_good : (n : ℕ) (i : Bool) (s : Standing) (k : Kind) (ps : List Pair) (c : Markups) (d : Data) (t : Bool) (h : Headed)
    → Some d ≡ data_for i s k ps → t ≡ text_fits k c → t ≡ true → IsHeadedAs s k ps d (texts_in c) h
    → HeadFits (i || is_grouped s) (λ held. fit_told n (i || is_grouped s) s k ps (data_for i s k ps) c (held k)) (Ok h)
headed_good n i s k ps c d t h e f g o = λ held.
    let j = i || is_grouped s in
    ap (λ z. fit_told n j s k ps z c (held k)) (sym e)
    ∙ if_true (text_fits k c) (one_piece s ps d (with_children j k (label_as s k ps d (texts_in c)) (held k))) (Err (n, why.Text)) (sym f ∙ g)
    ∙ ap (λ z. one_piece s ps d (with_children j k z (held k))) (sym o.label)
    ∙ ap (λ m. one_piece s ps d (with_children j m (label_of_head h.head) (held m))) (sym o.kind)
    ∙ made_is s k ps d (texts_in c) h (with_children j h.head.kind (label_of_head h.head) (held h.head.kind)) o

pub body_good : (n : ℕ) (ps : List Pair) (c : Markups) (d : Data) (t : Bool) (h : Head)
    → Some d ≡ body_data ps → t ≡ text_fits kind.Body c → t ≡ true → IsHeadOf kind.Body ps d (texts_in c) h
    → BodyFits (λ held. fit_body_told n ps (body_data ps) c held) (Ok h)
body_good n ps c d t h e f g o = λ held.
    ap (λ z. fit_body_told n ps z c held) (sym e)
    ∙ if_true (text_fits kind.Body c) (with_children false kind.Body (label_for kind.Body ps d (texts_in c)) held) (Err (n, why.Text)) (sym f ∙ g)
    ∙ ap (λ z. with_children false kind.Body z held) (sym o.label)
    ∙ ap (λ m. with_children false m (label_of_head h) held) (sym o.kind)

-- ---- a row of the table that may stand there

row_told : (n : ℕ) (x : Place) (s : Standing) (k : Kind) (o : Option Kind) (ps : List Pair) (c : Markups) (b : Bool)
    (held : Kind → Result (List Piece) Misfit) → o ≡ Some k → b ≡ fits_place x.parent x.behind s k c → b ≡ true
    → fit_row n x s o ps c held ≡ fit_as n x s k ps c (held k)
row_told n x s k o ps c b held e f g =
    ap (λ z. fit_row n x s z ps c held) e ∙ if_true (fits_place x.parent x.behind s k c) (fit_as n x s k ps c (held k)) (Err (n, why.Place)) (sym f ∙ g)

pub row_good : (n : ℕ) (p : Position) (s : Standing) (k : Kind) (o : Option Kind) (ps : List Pair) (c : Markups) (b : Bool)
    (r : Result Headed FitFault) → o ≡ Some k → b ≡ fits_place p.outer p.behind s k c → b ≡ true
    → HeadFits (p.inside || is_grouped s) (λ held. fit_told n (p.inside || is_grouped s) s k ps (data_for p.inside s k ps) c (held k)) r
    → RowFits (p.inside || is_grouped s) (λ group held. fit_row n (spot_with p group) s o ps c held) r
row_good n p s k o ps c b (Ok h) e f g x = λ group held. row_told n (spot_with p group) s k o ps c b held e f g ∙ x held
row_good n p s k o ps c b (Err (faults.Unfit m w)) e f g x = λ group held. row_told n (spot_with p group) s k o ps c b held e f g ∙ x held
row_good n p s k o ps c b (Err faults.NoMemory) e f g x = λ group. tt

-- the row is told by the attributes of the element's own
pub row_own : (n : ℕ) (p : Position) (s : Standing) (name : List ℕ) (ps qs : List Pair) (c : Markups) (r : Result Headed FitFault)
    → qs ≡ pairs_for s ps
    → RowFits (p.inside || is_grouped s) (λ group held. fit_row n (spot_with p group) s (row name qs) ps c held) r
    → RowFits (p.inside || is_grouped s) (λ group held. fit_row n (spot_with p group) s (row_as s name ps) ps c held) r
row_own n p s name ps qs c r e h = rw (sym e) h

pub row_own_of : (n : ℕ) (p : Position) (s : Standing) (name name' : List ℕ) (ps ps' qs : List Pair) (c : Markups) (r : Result Headed FitFault)
    → name' ≡ name → ps' ≡ ps → qs ≡ pairs_for s ps'
    → RowFits (p.inside || is_grouped s) (λ group held. fit_row n (spot_with p group) s (row name' qs) ps' c held) r
    → RowFits (p.inside || is_grouped s) (λ group held. fit_row n (spot_with p group) s (row_as s name ps) ps c held) r
row_own_of n p s name name' ps ps' qs c r a b e h = rw (sym a, sym b) (row_own n p s name' ps' qs c r e h)

pub row_memory : (n : ℕ) (p : Position) (s : Standing) (o : Option Kind) (ps : List Pair) (c : Markups) (e : FitFault) → e ≡ faults.NoMemory
    → RowFits (p.inside || is_grouped s) (λ group held. fit_row n (spot_with p group) s o ps c held) (Err e)
row_memory n p s o ps c e h =
    let P : FitFault → Type 0 = λ f. RowFits (p.inside || is_grouped s) (λ group held. fit_row n (spot_with p group) s o ps c held) (Err f) in
    subst P (sym h) (λ group. tt)

pub some_there : (xs : List Content) → 1 ≤ length xs → false ≡ is_none (views xs)
some_there [] h = absurd (omega (arith, h))
some_there (x ∷ xs) h = refl
