use Rattle.std.proofs.lemmas.Simd.{zip2_splat, zip2_splat_left, zip2_of_maps}
use lib.Bits.{bit_or}
use Rattle.wt_html_elements.proofs.Lanes.{hit, at_most, masked}
use Rattle.wt_html_elements.proofs.run.ends.Goals as goal

pub returns : goal.returns
returns c =
    let q = c.args.quote in
    let v = c.args.bytes in
    let long = c.fits-bytes.0 in
    let quotes = zip2_of_maps bit_or (λ x. hit x q) (λ x. hit x 38) v (zip2_splat hit v 16 q long) (zip2_splat hit v 16 38 long) in
    masked q v _ long (zip2_of_maps bit_or (λ x. bit_or (hit x q) (hit x 38)) (at_most 128) v quotes (zip2_splat_left at_most 128 16 v long))
