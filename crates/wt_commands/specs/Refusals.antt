-- Why a call of the program gives no answer, its status, and the line that names it.
use Rattle.std.specs.Prelude.{ℕ, List, [], ◌++◌, Option, Some, None, codes}
use Rattle.std.specs.Fmt.{decimal}
use Rattle.wt_html_grammar.specs.declared.why.HtmlWhy.{HtmlWhy}
use Rattle.wt_html_grammar.specs.declared.why.HtmlWhy.TheVariants as ill
use Rattle.wt_schema.specs.declared.why.FitWhy.{FitWhy}
use Rattle.wt_schema.specs.declared.why.FitWhy.TheVariants as unfit
use Rattle.wt_checks.specs.declared.refusal.TreeRefusal.{TreeRefusal}
use Rattle.wt_checks.specs.declared.refusal.TreeRefusal.TheVariants as check
use Rattle.wt_selser.specs.declared.refusal.EditRefusal.{EditRefusal}
use Rattle.wt_selser.specs.declared.refusal.EditRefusal.TheVariants as of_edit
use Rattle.wt_edit.specs.declared.refusal.EditRefusal.{EditRefusal as WholeRefusal}
use Rattle.wt_edit.specs.declared.refusal.EditRefusal.TheVariants as of_whole
use Rattle.wt_edit.specs.declared.selser_refusal.SelserRefusal.{SelserRefusal}
use Rattle.wt_edit.specs.declared.selser_refusal.SelserRefusal.TheVariants as of_selser
use Rattle.wt_content.specs.declared.reason.ContentWhy.{ContentWhy}
use Rattle.wt_content.specs.declared.reason.ContentWhy.TheVariants as bad
use Rattle.wt_commands.specs.declared.status.Status.{Status}
use Rattle.wt_commands.specs.declared.status.Status.TheVariants as status
use Rattle.wt_commands.specs.declared.refusal.Refusal.{Refusal}
use Rattle.wt_commands.specs.declared.refusal.Refusal.TheVariants.{Usage, Absent, TooLong, NotUtf8, BracesTooDeep, TooLarge, TemplateNotUtf8, TemplateTooLong, HtmlTooLong, InputTooLong, Html, Unfit, Unsourced, Checked, BadContent, Tangled, NewPageTooLong, NewExpansion, Unspelled, ReadFault, FolderFault, WriteFault, NoMemory}

-- how a call ends that is refused so
abbrev pub status_of : Refusal → Status
status_of Usage = status.Usage
status_of Absent = status.PageRefused
status_of TooLong = status.PageRefused
status_of (NotUtf8 place) = status.PageRefused
status_of (BracesTooDeep template place) = status.PageRefused
status_of TooLarge = status.PageRefused
status_of (TemplateNotUtf8 template place) = status.PageRefused
status_of (TemplateTooLong template) = status.PageRefused
status_of HtmlTooLong = status.PageRefused
status_of InputTooLong = status.HtmlRefused
status_of (Html place why) = status.HtmlRefused
status_of (Unfit n why) = status.HtmlRefused
status_of (Unsourced n) = status.HtmlRefused
status_of (Checked c) = status.EditRefused
status_of (BadContent n why) = status.EditRefused
status_of (Tangled n) = status.EditRefused
status_of NewPageTooLong = status.EditRefused
status_of NewExpansion = status.EditRefused
status_of (Unspelled k) = status.EditRefused
status_of ReadFault = status.ReadFault
status_of FolderFault = status.FolderFault
status_of WriteFault = status.WriteFault
status_of NoMemory = status.NoMemory

-- why the new page of an edit isn't made, as the program names it
abbrev pub refusal_of_edit : EditRefusal → Refusal
refusal_of_edit (of_edit.Check c) = Checked c
refusal_of_edit (of_edit.BadContent n why) = BadContent n why
refusal_of_edit (of_edit.Tangled n) = Tangled n
refusal_of_edit of_edit.NewPageTooLong = NewPageTooLong
refusal_of_edit of_edit.NoMemory = NoMemory

-- why an edit is refused, its new page read again
abbrev pub refusal_of_whole : WholeRefusal → Refusal
refusal_of_whole (of_whole.Check c) = Checked c
refusal_of_whole (of_whole.BadContent n why) = BadContent n why
refusal_of_whole (of_whole.Tangled n) = Tangled n
refusal_of_whole of_whole.NewPageTooLong = NewPageTooLong
refusal_of_whole (of_whole.NewExpansion e) = NewExpansion
refusal_of_whole (of_whole.Unspelled k) = Unspelled k
refusal_of_whole of_whole.FolderFault = FolderFault
refusal_of_whole of_whole.NoMemory = NoMemory

-- why an edit without marks is refused
abbrev pub refusal_of_selser : SelserRefusal → Refusal
refusal_of_selser (of_selser.Check c) = Checked c
refusal_of_selser (of_selser.BadContent n why) = BadContent n why
refusal_of_selser of_selser.NewPageTooLong = NewPageTooLong
refusal_of_selser of_selser.NewExpansion = NewExpansion
refusal_of_selser (of_selser.Unspelled k) = Unspelled k
refusal_of_selser of_selser.FolderFault = FolderFault
refusal_of_selser of_selser.NoMemory = NoMemory

unfoldable pub html_why : HtmlWhy → List ℕ
html_why ill.NotUtf8 = codes "NotUtf8"
html_why ill.End = codes "End"
html_why ill.TooDeep = codes "TooDeep"
html_why ill.EndTag = codes "EndTag"
html_why ill.Escape = codes "Escape"
html_why ill.Repeated = codes "Repeated"
html_why ill.Syntax = codes "Syntax"

unfoldable pub fit_why : FitWhy → List ℕ
fit_why unfit.Root = codes "Root"
fit_why unfit.Element = codes "Element"
fit_why unfit.Place = codes "Place"
fit_why unfit.Data = codes "Data"
fit_why unfit.Text = codes "Text"

unfoldable pub content_why : ContentWhy → List ℕ
content_why bad.Element = codes "Element"
content_why bad.Href = codes "Href"
content_why bad.LineBreak = codes "LineBreak"
content_why bad.Nested = codes "Nested"
content_why bad.EmptyList = codes "EmptyList"

-- what the comparison of the two trees found, and the node where it did
unfoldable pub check_name : TreeRefusal → List ℕ
check_name (check.UnknownId n) = codes "UnknownId"
check_name (check.RepeatedId n) = codes "RepeatedId"
check_name (check.Moved n) = codes "Moved"
check_name (check.InTemplate n) = codes "InTemplate"
check_name (check.NotEditable n) = codes "NotEditable"
check_name (check.UnmarkedChange n) = codes "UnmarkedChange"

abbrev pub check_node : TreeRefusal → ℕ
check_node (check.UnknownId n) = n
check_node (check.RepeatedId n) = n
check_node (check.Moved n) = n
check_node (check.InTemplate n) = n
check_node (check.NotEditable n) = n
check_node (check.UnmarkedChange n) = n

unfoldable pub usage_text : List ℕ
usage_text = codes "usage: wtround html TITLE | wikitext | edit TITLE | ranges TITLE | expand TITLE | gen N | lint TITLE | selser TITLE"

-- the text in which braces are too deep, where it isn't the page's own
abbrev pub in_template : Option (List ℕ) → List ℕ
in_template None = []
in_template (Some template) = codes " in " ++ template

unfoldable pub text_of : Refusal → List ℕ
text_of Usage = usage_text
text_of Absent = codes "no such page"
text_of TooLong = codes "page too long"
text_of (NotUtf8 place) = codes "page not UTF-8 at " ++ decimal place
text_of (BracesTooDeep template place) = codes "braces too deep at " ++ decimal place ++ in_template template
text_of TooLarge = codes "expansion too large"
text_of (TemplateNotUtf8 template place) = template ++ codes " not UTF-8 at " ++ decimal place
text_of (TemplateTooLong template) = template ++ codes " too long"
text_of HtmlTooLong = codes "html too long"
text_of InputTooLong = codes "input too long"
text_of (Html place why) = codes "html refused at " ++ decimal place ++ codes ": " ++ html_why why
text_of (Unfit n why) = codes "element " ++ decimal n ++ codes " does not fit: " ++ fit_why why
text_of (Unsourced n) = codes "element " ++ decimal n ++ codes " has no source"
text_of (Checked c) = codes "edit refused: " ++ check_name c ++ codes " " ++ decimal (check_node c)
text_of (BadContent n why) = codes "edit refused: BadContent " ++ decimal n ++ codes " " ++ content_why why
text_of (Tangled n) = codes "edit refused: Tangled " ++ decimal n
text_of NewPageTooLong = codes "edit refused: NewPageTooLong"
text_of NewExpansion = codes "edit refused: NewExpansion"
text_of (Unspelled k) = codes "edit refused: Unspelled " ++ decimal k
text_of ReadFault = codes "read fault"
text_of FolderFault = codes "folder fault"
text_of WriteFault = codes "write fault"
text_of NoMemory = codes "no memory"

-- the line on standard error
unfoldable pub line_of : Refusal → List ℕ
line_of r = codes "wtround: " ++ text_of r ++ codes "\n"
