-- Worked cases: pages of one section and of ten.
use Rattle.std.proofs.Common.{◌≡◌, refl, length}
use Rattle.std.specs.Prelude.{codes}
use Rattle.std.specs.Fmt.{digits}
use Rattle.wt_gen.specs.Gen.{section, sections}

one_section : sections 1 ≡ codes "== Section 1 ==\n\nWord ''1'' and [[Page 1]].\n\n* item 1\n\n{{T}}\n\n"
unfolding section digits
one_section = refl

one_section_len : length (sections 1) ≡ 62
unfolding section digits
one_section_len = refl

ten_sections_len : length (sections 10) ≡ 624
unfolding section digits
ten_sections_len = refl
