-- A worked call: a page of a line, a heading and another line, of which an editor sends the line with another text.
use Rattle.std.specs.Prelude.{ℕ, List, codes}

abbrev pub stored_page : List ℕ
stored_page = codes "a\n== h ==\nc"

-- What the editor sends with the mark of an edit on the line. (It may leave out what isn't needed, as where an element comes from.)
abbrev pub marked_html : List ℕ
marked_html = codes "<html><body><p id=\"mw1\" data-wt-edit=\"content\">b &amp; [c]</p>\n<h2 id=\"mw2\">h</h2>\n<p id=\"mw3\">c</p></body></html>"

-- and without a mark
abbrev pub plain_html : List ℕ
plain_html = codes "<html><body><p id=\"mw1\">b &amp; [c]</p>\n<h2 id=\"mw2\">h</h2>\n<p id=\"mw3\">c</p></body></html>"

abbrev pub written_page : List ℕ
written_page = codes "b & &#91;c&#93;\n== h ==\nc"
