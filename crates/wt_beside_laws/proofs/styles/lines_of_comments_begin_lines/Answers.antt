use Rattle.wt_beside_laws.proofs.Styled.LedLines.{own_led}
use Rattle.wt_beside_laws.proofs.Styled.OwnFirst.{paragraph_begins}
use Rattle.wt_beside_laws.proofs.styles.lines_of_comments_begin_lines.Goals as goal

pub returns : goal.returns
returns c = record {
  led = λ k q n before block h some is. own_led k q block h (record { number = n; before = before; some = some; is = is });
  unmarked = λ q n before block h some is. paragraph_begins q block h (record { number = n; before = before; some = some; is = is });
}
