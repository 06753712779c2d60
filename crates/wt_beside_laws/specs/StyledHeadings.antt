-- A content with styles of a heading: it is on one line.
use Rattle.std.specs.Prelude.{◌≡◌}
use Rattle.wt_tree.specs.declared.edit_shape.Place.TheVariants as place
use Rattle.wt_guards.specs.Guards.{Setting}
use Rattle.wt_beside_laws.specs.InHeadings.{AreOnOneLine}
use Rattle.wt_beside_laws.specs.Styled.{StyledContent, signs_in, IsStyledContent}

pub record IsStyledHeading (s : Setting) (t : StyledContent) : Type 0 where
  pub styled : IsStyledContent s t
  pub of_heading : s.place ≡ place.Heading
  pub one_line : AreOnOneLine (signs_in t)
