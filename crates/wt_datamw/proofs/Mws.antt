-- The parameters of `data-mw` have no floats, and the whole nests a few levels deep.
use Rattle.std.proofs.Common.{◌≡◌, ◌≤◌, ℕ, Bool, true, false, List, [], ◌∷◌, Some, None, refl, ap, ◌∙◌, arith}
use Rattle.std.specs.Prelude.{◌||◌}
use Rattle.std.specs.Ordering.{nat_cmp, match_ordering}
use Rattle.std.specs.Cmp.Lexicographic.{slice_cmp}
use Rattle.std.specs.declared.cmp.Ordering.{Ordering}
use Rattle.std.specs.declared.cmp.Ordering.TheVariants.{Less, Equal, Greater}
use Rattle.serde_json.specs.Data.{Data, Members, member, no_members, put, depth, items_depth, members_depth}
use Rattle.serde_json.specs.Written.{has_float, members_have_float}
use Rattle.wt_tree.specs.declared.node.DataMw.{DataMw}
use Rattle.wt_tree.specs.declared.node.DataMw.TheVariants as mw
use Rattle.wt_tree.specs.declared.node.Part.{Part}
use Rattle.wt_tree.specs.declared.node.Part.TheVariants as part
use Rattle.wt_datamw.specs.Mw.{wt_data, params_from, params_data, template_data, function_data, part_data, parts_items, mw_data}

or_free : (a b : Bool) → a ≡ false → b ≡ false → (a || b) ≡ false
or_free a b e f = ap (λ x. x || b) e ∙ f

or_left : (a b : Bool) → (a || b) ≡ false → a ≡ false
or_left true b e = e
or_left false b e = refl

or_right : (a b : Bool) → (a || b) ≡ false → b ≡ false
or_right true b e = cc
or_right false b e = e

match_free : (o : Ordering) (a b c : Members) → members_have_float a ≡ false → members_have_float b ≡ false
    → members_have_float c ≡ false → members_have_float (match_ordering o a b c) ≡ false
match_free Less a b c e f g = e
match_free Equal a b c e f g = f
match_free Greater a b c e f g = g

put_free : (k : List ℕ) (d : Data) (ms : Members) → has_float d ≡ false → members_have_float ms ≡ false → members_have_float (put k d ms) ≡ false
put_free k d no_members hd hm = or_free (has_float d) false hd refl
put_free k d (member l e ms) hd hm =
    let one = or_left (has_float e) (members_have_float ms) hm in
    let more = or_right (has_float e) (members_have_float ms) hm in
    match_free (slice_cmp nat_cmp k l) (member k d (member l e ms)) (member l d ms) (member l e (put k d ms))
    (or_free (has_float d) (members_have_float (member l e ms)) hd hm) (or_free (has_float d) (members_have_float ms) hd more)
    (or_free (has_float e) (members_have_float (put k d ms)) one (put_free k d ms hd more))

params_free : (ps : List (List ℕ × List ℕ)) (ms : Members) → members_have_float ms ≡ false → members_have_float (params_from ms ps) ≡ false
params_free [] ms h = h
params_free (p ∷ ps) ms h = params_free ps (put p.0 (wt_data p.1) ms) (put_free p.0 (wt_data p.1) ms refl h)

pub params_no_float : (ps : List (List ℕ × List ℕ)) → has_float (params_data ps) ≡ false
unfolding params_data
params_no_float ps = params_free ps no_members refl

match_depth : (n : ℕ) (o : Ordering) (a b c : Members) → members_depth a ≤ n → members_depth b ≤ n → members_depth c ≤ n
    → members_depth (match_ordering o a b c) ≤ n
match_depth n Less a b c e f g = e
match_depth n Equal a b c e f g = f
match_depth n Greater a b c e f g = g

put_depth : (n : ℕ) (k : List ℕ) (d : Data) (ms : Members) → depth d ≤ n → members_depth ms ≤ n → members_depth (put k d ms) ≤ n
put_depth n k d no_members hd hm = omega (arith, hd)
put_depth n k d (member l e ms) hd hm =
    let r : depth e ≤ n → members_depth ms ≤ n → members_depth (put k d ms) ≤ n = λ a b. put_depth n k d ms hd b in
    let one : depth e ≤ n = omega (arith, hm) in
    let more : members_depth ms ≤ n = omega (arith, hm) in
    let below : members_depth (put k d ms) ≤ n = r one more in
    match_depth n (slice_cmp nat_cmp k l) (member k d (member l e ms)) (member l d ms) (member l e (put k d ms)) (omega arith) (omega arith) (omega arith)

params_depth : (ps : List (List ℕ × List ℕ)) (ms : Members) → members_depth ms ≤ 1 → members_depth (params_from ms ps) ≤ 1
params_depth [] ms h = h
params_depth (p ∷ ps) ms h = params_depth ps (put p.0 (wt_data p.1) ms) (put_depth 1 p.0 (wt_data p.1) ms (omega arith) h)

part_depth : (p : Part) → depth (part_data p) ≤ 5
unfolding template_data function_data params_data
part_depth (part.Template target href ps i) = omega (arith, params_depth ps no_members (omega arith))
part_depth (part.Function name target ps i) = omega (arith, params_depth ps no_members (omega arith))
part_depth (part.Param source) = omega arith
part_depth (part.Literal text) = omega arith

parts_depth : (ps : List Part) → items_depth (parts_items ps) ≤ 5
parts_depth [] = omega arith
parts_depth (p ∷ ps) = omega (arith, part_depth p, parts_depth ps)

pub mw_depth : (d : DataMw) → depth (mw_data d) ≤ 7
mw_depth (mw.Parts ps) = omega (arith, parts_depth ps)
mw_depth (mw.Extension name None) = omega arith
mw_depth (mw.Extension name (Some body)) = omega arith
