use Rattle.std.proofs.Common.{◌≡◌, ◌≤◌, take, drop, length, ◌∙◌, ap, arith}
use Rattle.wt_devices.proofs.Contents.{reads_front}
use Rattle.wt_devices.proofs.memory.Content.read.Goals as goal

pub returns-clause-front : goal.returns-clause-front
returns-clause-front c =
    let rest : c.rest_of-rest.result.now ≡ drop c.args.self.now.at c.args.self.now.bytes = c.rest_of-rest.ensures
    ∙ ap (drop c.args.self.now.at) c.as_slice.ensures in
    let within : c.min-count.result ≤ length (drop c.args.self.now.at c.args.self.now.bytes) = omega (arith, ap length rest) in
    reads_front c.args.self.now.at c.min-count.result c.args.self.now.bytes c.copy_from_slice.new.self _
    (c.copy_from_slice.ensures.after ∙ c.front_of.ensures ∙ ap (take c.min-count.result) rest) within
