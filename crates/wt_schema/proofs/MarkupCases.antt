-- Worked cases of the HTML text, each by computing.
use Rattle.std.proofs.Common.{◌≡◌, ℕ, Some, None, List, [], ◌∷◌, refl, codes}
use Rattle.wt_tree.specs.declared.kind.AttrName.TheVariants as attr
use Rattle.wt_tree.specs.declared.kind.Kind.{Kind}
use Rattle.wt_tree.specs.declared.kind.Kind.TheVariants as kind
use Rattle.wt_tree.specs.declared.kind.Mark.TheVariants.{Nothing}
use Rattle.wt_tree.specs.declared.node.DataMw.TheVariants as mw
use Rattle.wt_tree.specs.declared.node.Part.{Part}
use Rattle.wt_tree.specs.declared.node.Part.TheVariants as part
use Rattle.wt_tree.specs.Tree.{Label, Tree, tree, Trees, none, more}
use Rattle.std.specs.Fmt.{digits}
use Rattle.serde_json.proofs.OnLiterals.{serde_json_on_literals}
use Rattle.wt_datamw.specs.Sync.{sync_text, sync_members}
use Rattle.wt_datamw.specs.Mw.{params_data, template_data, mw_text}
use Rattle.wt_tree.specs.Kinds.{spelling, tag_name, attribute_name}
use Rattle.wt_schema.specs.Escapes.{escape, escape_single, escape_double}
use Rattle.wt_schema.specs.Html.{attribute, about_attribute, first_attributes, next_attributes, id_attribute, mw_attribute, sync_of, sync_start, sync_value, sync_attribute, attributes_of, start_tag, section_start, end_tag, frame_start, frame_end, html_text}

abbrev blank : Kind → ℕ → ℕ → ℕ → Label
blank k id start end = record {
  kind = k;
  id = id;
  ranges = Some (record { start = start; end = end; open_w = 0; close_w = 0 });
  opening = [];
  closing = [];
  own = [];
  shown = [];
  attrs = [];
  origin = None;
  mark = Nothing;
  mw = None;
}

-- with delimiters of these widths
abbrev wide : Kind → ℕ → ℕ → ℕ → ℕ → ℕ → Label
wide k id start end open_w close_w = record (blank k id start end) { ranges = Some (record { start = start; end = end; open_w = open_w; close_w = close_w }) }

abbrev body : ℕ → Trees → Tree
body size ts = tree (blank kind.Body 0 0 size) ts

abbrev text_leaf : ℕ → ℕ → List ℕ → Tree
text_leaf start end bs = tree (record (blank kind.Text 0 start end) { own = bs; shown = bs }) none

-- the empty page
empty_page : html_text (body 0 none) ≡ codes
    "<!DOCTYPE html><html><head><meta charset=\"utf-8\"/></head><body data-parsoid='{\"dsr\":[0,0,0,0]}'></body></html>"
unfolding html_text frame_start frame_end start_tag end_tag attributes_of id_attribute mw_attribute sync_of sync_start sync_value
    sync_attribute spelling sync_text sync_members escape escape_single serde_json_on_literals digits
empty_page = refl

-- the page `a`
one_letter : html_text (body 1 (more (tree (blank kind.Para 1 0 1) (more (text_leaf 0 1 (codes "a")) none)) none))
    ≡ codes "<!DOCTYPE html><html><head><meta charset=\"utf-8\"/></head><body data-parsoid='{\"dsr\":[0,1,0,0]}'><p id=\"mw1\" data-parsoid='{\"dsr\":[0,1,0,0]}'>a</p></body></html>"
unfolding html_text frame_start frame_end start_tag end_tag attributes_of id_attribute mw_attribute sync_of sync_start sync_value
    sync_attribute spelling sync_text sync_members escape escape_single serde_json_on_literals digits
one_letter = refl

-- a heading has its delimiters in the attribute, and texts are escaped
heading : html_text (body 9 (more (tree (record (blank (kind.Heading 2) 1 0 9) { opening = codes "== "; closing = codes " =='" })
    (more (text_leaf 3 6 (codes "<&>")) none)) none))
    ≡ codes "<!DOCTYPE html><html><head><meta charset=\"utf-8\"/></head><body data-parsoid='{\"dsr\":[0,9,0,0]}'><h2 id=\"mw1\" data-parsoid='{\"c\":\" ==&#39;\",\"dsr\":[0,9,0,0],\"o\":\"== \"}'>&lt;&amp;&gt;</h2></body></html>"
unfolding html_text frame_start frame_end start_tag end_tag attributes_of id_attribute mw_attribute sync_of sync_start sync_value
    sync_attribute spelling sync_text sync_members escape escape_single serde_json_on_literals digits
heading = refl

-- the page `a`, in the section of what stands before all headings
one_section : html_text (body 1 (more (tree (blank (kind.Section 0) 0 0 1)
    (more (tree (blank kind.Para 1 0 1) (more (text_leaf 0 1 (codes "a")) none)) none)) none))
    ≡ codes "<!DOCTYPE html><html><head><meta charset=\"utf-8\"/></head><body data-parsoid='{\"dsr\":[0,1,0,0]}'><section data-mw-section-id=\"0\"><p id=\"mw1\" data-parsoid='{\"dsr\":[0,1,0,0]}'>a</p></section></body></html>"
unfolding html_text frame_start frame_end start_tag section_start end_tag attributes_of id_attribute mw_attribute sync_of sync_start sync_value
    sync_attribute spelling sync_text sync_members escape escape_single serde_json_on_literals digits
one_section = refl

-- ---- groups

-- a group with this source and word, whose parts are these
abbrev group : ℕ → ℕ → ℕ → List ℕ → List ℕ → List Part → Trees → Tree
group id start end source word parts ts =
    tree (record (blank kind.Group id start end) { own = source; attrs = (attr.Typeof, word) ∷ []; mw = Some (mw.Parts parts) }) ts

abbrev transclusion : List ℕ
transclusion = codes "mw:Transclusion"

-- The page `a {{x}}`, and the template gives `b`: the text is one `span`.
called_letter : html_text (body 7 (more (tree (blank kind.Para 1 0 7) (more (text_leaf 0 2 (codes "a "))
    (more (group 2 2 7 (codes "{{x}}") transclusion (part.Template (codes "x") (codes "./Template:X") [] 0 ∷ [])
    (more (text_leaf 0 0 (codes "b")) none)) none))) none))
    ≡ codes "<!DOCTYPE html><html><head><meta charset=\"utf-8\"/></head><body data-parsoid='{\"dsr\":[0,7,0,0]}'><p id=\"mw1\" data-parsoid='{\"dsr\":[0,7,0,0]}'>a <span about=\"#mwt1\" typeof=\"mw:Transclusion\" id=\"mw2\" data-mw='{\"parts\":[{\"template\":{\"i\":0,\"params\":{},\"target\":{\"href\":\"./Template:X\",\"wt\":\"x\"}}}]}' data-parsoid='{\"dsr\":[2,7,0,0],\"src\":\"{{x}}\"}'>b</span></p></body></html>"
unfolding html_text frame_start frame_end start_tag end_tag attributes_of id_attribute mw_attribute sync_of sync_start sync_value
    sync_attribute spelling sync_text sync_members escape escape_single escape_double serde_json_on_literals digits attribute
    about_attribute first_attributes next_attributes tag_name attribute_name mw_text params_data template_data
called_letter = refl

-- The page `''a'''b''`: the bold text that begins again behind the italic one is empty, and a group by itself.
empty_style : html_text (body 9 (more (tree (blank kind.Para 1 0 9)
    (more (tree (record (wide kind.Italic 2 0 9 2 2) { opening = codes "''"; closing = codes "''" }) (more (text_leaf 2 3 (codes "a"))
    (more (tree (record (wide kind.Bold 3 3 7 3 0) { opening = codes "'''" }) (more (text_leaf 6 7 (codes "b")) none)) none)))
    (more (group 4 9 9 [] transclusion [] (more (tree (record (blank kind.Bold 0 0 0) { ranges = None }) none) none)) none))) none))
    ≡ codes "<!DOCTYPE html><html><head><meta charset=\"utf-8\"/></head><body data-parsoid='{\"dsr\":[0,9,0,0]}'><p id=\"mw1\" data-parsoid='{\"dsr\":[0,9,0,0]}'><i id=\"mw2\" data-parsoid='{\"c\":\"&#39;&#39;\",\"dsr\":[0,9,2,2],\"o\":\"&#39;&#39;\"}'>a<b id=\"mw3\" data-parsoid='{\"dsr\":[3,7,3,0],\"o\":\"&#39;&#39;&#39;\"}'>b</b></i><b about=\"#mwt1\" typeof=\"mw:Transclusion\" id=\"mw4\" data-mw='{\"parts\":[]}' data-parsoid='{\"dsr\":[9,9,0,0],\"src\":\"\"}'></b></p></body></html>"
unfolding html_text frame_start frame_end start_tag end_tag attributes_of id_attribute mw_attribute sync_of sync_start sync_value
    sync_attribute spelling sync_text sync_members escape escape_single escape_double serde_json_on_literals digits attribute
    about_attribute first_attributes next_attributes tag_name attribute_name mw_text params_data template_data
empty_style = refl
