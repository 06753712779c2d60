use Rattle.std.proofs.Common.{sym, ap, ◌∙◌, string_bytes}
use Rattle.wt_names.proofs.Ascii.{raised_made, raised_empty}
use Rattle.wt_names.proofs.reading.raised.Goals as goal
use Rattle.wt_names.proofs.reading.raised.Goals.{in-Some+in_ok-push+in_ok-push_str, in_default}

pub returns : goal.returns
returns c =
    let text = c.chars-chars.ensures.rest in
    c.from_string.ensures ∙ elim c.match-next.branch [
      | in-Some+in_ok-push+in_ok-push_str w ↦
          raised_made w.in-Some.first w.to_ascii_uppercase.result c.args.name.now c.chars-chars.result.rest.now
          c.next.new.self.rest.now (string_bytes c.new-out.result)
          (string_bytes w.push.new.self) w.as_str.result.now (string_bytes w.push_str.new.self)
          (string_bytes c.match-next.out) w.to_ascii_uppercase.ensures.value text w.in-Some.ensures.steps.0
          c.new-out.ensures.bytes w.in_ok-push.ensures.bytes w.as_str.ensures w.in_ok-push_str.ensures.bytes (ap string_bytes w.out-is)
      | in_default w ↦ ap string_bytes w.out-is ∙ c.new-out.ensures.bytes ∙ sym (raised_empty c.args.name.now (rw (sym text) w.in_default.ensures.steps.0.0))
    ]
