use Rattle.std.proofs.Common.{ap, ◌∙◌, ◌++◌, nat_eq, string_bytes}
use Rattle.wt_names.specs.Reading.{squeezed}
use Rattle.wt_names.proofs.Spaces.{left_after, wrote_other, wrote_space, left_out}
use Rattle.wt_names.proofs.reading.squeezed.Goals as goal
use Rattle.wt_names.proofs.reading.squeezed.Goals.{then-c-ne32+in_ok-push, then-c-ne32-via-then-c-ne32, then-c-ne32-via-else-c-ne32+then-not-after_space, else-c-ne32+else-not-after_space}

pub loop-c-preserved : goal.loop-c-preserved
loop-c-preserved c =
    let step = c.in-Some.ensures.steps.0 in
    let out = string_bytes c.loop-c.out in
    let whole = squeezed c.args.text.now in
    elim c.if-c-ne32.branch [
      | then-c-ne32+in_ok-push w ↦
          let made = ap string_bytes w.out-is ∙ w.in_ok-push.ensures.bytes in
          elim w.then-c-ne32.branch [
            | then-c-ne32-via-then-c-ne32 w' ↦ wrote_other c.loop-c.after_space c.in-Some.c out _ _ _ whole w'.if-c-ne32.true step made c.loop-c.invariant
            | then-c-ne32-via-else-c-ne32+then-not-after_space w' ↦ wrote_space c.loop-c.after_space c.in-Some.c out _ _ _ whole
                w'.if-c-ne32.false w'.if-not-after_space.true step made c.loop-c.invariant
          ]
      | else-c-ne32+else-not-after_space w ↦
          ap (λ o. string_bytes o ++ squeezed (left_after (nat_eq c.in-Some.c 32) c.next.new.self.rest.now)) w.out-is
          ∙ left_out c.loop-c.after_space c.in-Some.c out _ _ whole w.if-c-ne32.false w.if-not-after_space.false step c.loop-c.invariant
    ]
