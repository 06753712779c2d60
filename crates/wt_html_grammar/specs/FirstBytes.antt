-- What contracts see in the code's row of the table of first bytes.
use Rattle.wt_html_grammar.specs.Signs.{Follow}
use Rattle.wt_html_grammar.specs.declared.utf8.Following.{Following}

abbrev pub follow_of : Following → Follow
follow_of f = record { low = f.low; high = f.high; more = f.more }
