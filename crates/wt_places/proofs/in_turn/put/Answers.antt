use Rattle.std.proofs.Common.{◌≡◌, ◌+◌, ℕ, length, set, sym, ap, ◌∙◌, arith}
use Rattle.wt_places.specs.Piles.{above}
use Rattle.wt_places.proofs.Turning.{all_above, put_behind, put_within}
use Rattle.wt_places.proofs.in_turn.put.Goals as goal

pub returns-then-place-len-clause-put : goal.returns-then-place-len-clause-put
returns-then-place-len-clause-put c =
    let ms = c.args.numbers.now.items in
    let n = c.args.number in
    let place : c.above-place.result ≡ above n ms = c.above-place.ensures ∙ ap (above n) c.as_slice.ensures.value in
    let size : c.len.result ≡ length ms = c.len.ensures ∙ sym c.as_slice.ensures.len ∙ ap length c.as_slice.ensures.value in
    ap (λ (k : ℕ). set ms k n) place ∙ put_within n ms (omega (arith, place, size, c.if-place-len.true))

pub returns-clause-count : goal.returns-clause-count
returns-clause-count c =
    let ms = c.args.numbers.now.items in
    let n = c.args.number in
    let place : c.above-place.result ≡ above n ms = c.above-place.ensures ∙ ap (above n) c.as_slice.ensures.value in
    let size : c.len.result ≡ length ms = c.len.ensures ∙ sym c.as_slice.ensures.len ∙ ap length c.as_slice.ensures.value in
    let all = all_above n ms (omega (arith, place, size, c.if-place-len.false)) in
    let more : c.len-2.result ≡ c.len.result + 1 = c.len-2.ensures ∙ c.in_ok-push.ensures.len ∙ ap (λ (k : ℕ). k + 1) (sym c.len.ensures) in
    omega (arith, more, size, all)

pub returns-clause-put : goal.returns-clause-put
returns-clause-put c =
    let ms = c.args.numbers.now.items in
    let n = c.args.number in
    let place : c.above-place.result ≡ above n ms = c.above-place.ensures ∙ ap (above n) c.as_slice.ensures.value in
    let size : c.len.result ≡ length ms = c.len.ensures ∙ sym c.as_slice.ensures.len ∙ ap length c.as_slice.ensures.value in
    c.in_ok-push.ensures.items ∙ put_behind n ms (omega (arith, place, size, c.if-place-len.false))
