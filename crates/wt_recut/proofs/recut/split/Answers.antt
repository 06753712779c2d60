use Rattle.std.proofs.Common.{◌≡◌, ◌<◌, ◌≤◌, length, rules, arith}
use Rattle.wt_span.specs.Slice.{bytes_of}
use Rattle.wt_recut.proofs.Recuts.{split_found, split_none}
use Rattle.wt_recut.proofs.recut.split.Goals as goal

pub returns-then-at-bytes : goal.returns-then-at-bytes
returns-then-at-bytes c =
    let e : c.as_bytes-bytes.result.now ≡ bytes_of c.args.text = search rules in
    let l : c.break_at-at.result < length c.as_bytes-bytes.result.now = search rules in
    split_found (bytes_of c.args.text) c.as_bytes-bytes.result.now (bytes_of c.split_at.result.0)
    (bytes_of c.split_at.result.1) c.break_at-at.result _ e l c.break_at-at.ensures.before
    (c.break_at-at.ensures.here l) (omega (arith, c.range.ensures.start)) c.split_at.ensures.front c.split_at.ensures.back

pub returns-else-at-bytes : goal.returns-else-at-bytes
returns-else-at-bytes c =
    let e : c.as_bytes-bytes.result.now ≡ bytes_of c.args.text = search rules in
    let l : length c.as_bytes-bytes.result.now ≤ c.break_at-at.result = search rules in
    split_none (bytes_of c.args.text) c.as_bytes-bytes.result.now c.break_at-at.result e l c.break_at-at.ensures.before
