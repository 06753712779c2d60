-- Worked cases of the definitions, each by computing.
use Rattle.std.proofs.Common.{◌≡◌, ℕ, Some, None, List, [], ◌∷◌, ◌++◌, map, Bool, true, false, refl, codes}
use Rattle.wt_span.specs.declared.form.Mode.TheVariants.{Page, Template}
use Rattle.wt_span.specs.declared.form.LexKind.TheVariants.{Chars, CommentLine, Comment, Raw, Include, Hidden, Entity, Opens, Closes, LinkOpen, LinkClose, Pipe, Equals}
use Rattle.wt_span.specs.declared.form.ItemForm.TheVariants.{EmptyCall}
use Rattle.wt_span.specs.declared.origin.Origin.TheVariants as origin
use Rattle.wt_span.specs.Items.{Item, char, whole}
use Rattle.wt_span.specs.Origins.{OuterCall, once, span_of_origin}
use Rattle.wt_span.specs.Cuts.{is_free, place, page_of}
use Rattle.wt_span.specs.Comments.{comment_len, comment_line_len}
use Rattle.wt_span.specs.Tags.{tag_after, opening_tag, closing_tag, with_inside, is_extension, raw_len, include_at}
use Rattle.wt_span.specs.Entities.{entity_names, named_entity, decimal_entity, hex_entity, entity_at}
use Rattle.wt_span.specs.Lexemes.{sign_word, form_at, closed, words}
use Rattle.wt_span.specs.Braces.{CallAt, rewritten, reduced, parts_of, calls, nesting}

-- a comment line takes its line break; `-->` isn't found inside `<!-->`; without `-->` a comment runs to the end
comments : map (words Page) (codes "<!-->x-->y" ∷ codes "<!--a"
    ∷ (codes "a" ++ 10 ∷ codes " <!-- c --><!--d--> " ++ 10 ∷ codes "b") ∷ (codes "<!--c-->" ++ 10 ∷ codes " <!--c-->b") ∷ [])
    ≡ ((Comment, 9) ∷ (Chars, 1) ∷ []) ∷ ((Comment, 5) ∷ []) ∷ ((Chars, 2) ∷ (CommentLine, 21) ∷ (Chars, 1) ∷ [])
    ∷ ((Comment, 8) ∷ (Chars, 2) ∷ (Comment, 8) ∷ (Chars, 1) ∷ []) ∷ []
unfolding words closed form_at comment_len comment_line_len raw_len opening_tag tag_after closing_tag with_inside is_extension
    include_at entity_at named_entity decimal_entity hex_entity entity_names sign_word
comments = refl

-- raw tags end with the next closing tag of their own name, in any case; without one they are characters
raw_tags : map (words Page) (codes "<nowiki>''x''</nowiki>" ∷ codes "<REF a=b>|</pre></Ref  >" ∷ codes "<ref />|" ∷ codes "<ref>|" ∷ codes "<b>" ∷ [])
    ≡ ((Raw, 22) ∷ []) ∷ ((Raw, 24) ∷ []) ∷ ((Raw, 7) ∷ (Pipe, 1) ∷ []) ∷ ((Chars, 5) ∷ (Pipe, 1) ∷ []) ∷ ((Chars, 3) ∷ []) ∷ []
unfolding words closed form_at comment_len comment_line_len raw_len opening_tag tag_after closing_tag with_inside is_extension
    include_at entity_at named_entity decimal_entity hex_entity entity_names sign_word
raw_tags = refl

-- include tags on the page: what only templates include is hidden
include_tags : map (words Page) (codes "<noinclude>a</noinclude><includeonly>b</includeonly>" ∷ codes "<includeonly x>b"
    ∷ codes "<includeonly/>b" ∷ codes "</includeonly>" ∷ [])
    ≡ ((Include, 11) ∷ (Chars, 1) ∷ (Include, 12) ∷ (Hidden, 28) ∷ []) ∷ ((Hidden, 16) ∷ []) ∷ ((Hidden, 14) ∷ (Chars, 1) ∷ []) ∷ ((Chars, 14) ∷ []) ∷ []
unfolding words closed form_at comment_len comment_line_len raw_len opening_tag tag_after closing_tag with_inside is_extension
    include_at entity_at named_entity decimal_entity hex_entity entity_names sign_word
include_tags = refl

-- the same in a template: what isn't included is hidden
included_tags : map (words Template) (codes "<noinclude>a</noinclude><includeonly>b</includeonly>" ∷ codes "<onlyinclude/>" ∷ [])
    ≡ ((Hidden, 24) ∷ (Include, 13) ∷ (Chars, 1) ∷ (Include, 14) ∷ []) ∷ ((Chars, 14) ∷ []) ∷ []
unfolding words closed form_at comment_len comment_line_len raw_len opening_tag tag_after closing_tag with_inside is_extension
    include_at entity_at named_entity decimal_entity hex_entity entity_names sign_word
included_tags = refl

-- names of entities have a case, and their numbers bounds and a count of digits
entities : map (words Page) (codes "&lt;&#91;&#x5b;&#31;&Lt;" ∷ codes "&#0000065;" ∷ codes "&#00000065;" ∷ codes "&#xD7FF;&#xD800;&#127;" ∷ [])
    ≡ ((Entity 60, 4) ∷ (Entity 91, 5) ∷ (Entity 91, 6) ∷ (Chars, 9) ∷ []) ∷ ((Entity 65, 10) ∷ []) ∷ ((Chars, 11) ∷ [])
    ∷ ((Entity 55295, 8) ∷ (Chars, 14) ∷ []) ∷ []
unfolding words closed form_at comment_len comment_line_len raw_len opening_tag tag_after closing_tag with_inside is_extension
    include_at entity_at named_entity decimal_entity hex_entity entity_names sign_word
entities = refl

-- braces count from two on; three brackets are two and one
signs : map (words Page) (codes "{{{x}}" ∷ codes "{a}" ∷ codes "[[[a]]]" ∷ codes "a|b=c" ∷ [])
    ≡ ((Opens, 3) ∷ (Chars, 1) ∷ (Closes, 2) ∷ []) ∷ ((Chars, 3) ∷ [])
    ∷ ((LinkOpen, 2) ∷ (Chars, 2) ∷ (LinkClose, 2) ∷ (Chars, 1) ∷ [])
    ∷ ((Chars, 1) ∷ (Pipe, 1) ∷ (Chars, 1) ∷ (Equals, 1) ∷ (Chars, 1) ∷ []) ∷ []
unfolding words closed form_at comment_len comment_line_len raw_len opening_tag tag_after closing_tag with_inside is_extension
    include_at entity_at named_entity decimal_entity hex_entity entity_names sign_word
signs = refl

-- ---- calls, in order of their first bytes

-- three braces are taken before two, the last of an open run first; a run without a partner is text
nested_calls : map (calls 0) (((Opens, 5) ∷ (Chars, 1) ∷ (Closes, 5) ∷ []) ∷ ((Opens, 2) ∷ (Chars, 1) ∷ (Closes, 3) ∷ [])
    ∷ ((Closes, 2) ∷ (Opens, 2) ∷ []) ∷ [])
    ≡ (record { argument = false; from = 0; to = 11; parts = record { from = 2; to = 9; equals_at = None } ∷ []; parent = None }
    ∷ record { argument = true; from = 2; to = 9; parts = record { from = 5; to = 6; equals_at = None } ∷ []; parent = Some 0 } ∷ [])
    ∷ (record { argument = false; from = 0; to = 5; parts = record { from = 2; to = 3; equals_at = None } ∷ []; parent = None } ∷ []) ∷ [] ∷ []
unfolding calls reduced rewritten parts_of
nested_calls = refl

-- an open run with one brace left is passed over: `{{{{{a}}}}b}}` and `{{{{{a}}b}}c}}`
abbrev seen : CallAt → Bool × ℕ × ℕ
seen c = (c.argument, c.from, c.to)

passed_over : map (map seen) (map (calls 0) (((Opens, 5) ∷ (Chars, 1) ∷ (Closes, 4) ∷ (Chars, 1) ∷ (Closes, 2) ∷ [])
    ∷ ((Opens, 2) ∷ (Chars, 1) ∷ (Opens, 3) ∷ (Chars, 1) ∷ (Closes, 2) ∷ (Chars, 1) ∷ (Closes, 2) ∷ []) ∷ []))
    ≡ ((false, 0, 13) ∷ (true, 2, 9) ∷ []) ∷ ((false, 0, 12) ∷ (false, 4, 9) ∷ []) ∷ []
unfolding calls reduced rewritten parts_of
passed_over = refl

-- `{{a|[[b|c]]|d=e=f|[[g|h}}`: a `|` between a `[[` and its `]]` parts nothing, one after an unpaired `[[` does
parts : map (λ (c : CallAt). c.parts) (calls 0 (words Page (codes "{{a=|[[b|c=]]|d=e=f|[[g|h}}")))
    ≡ (record { from = 2; to = 4; equals_at = None } ∷ record { from = 5; to = 13; equals_at = None } ∷ record { from = 14; to = 19; equals_at = Some 15 }
    ∷ record { from = 20; to = 23; equals_at = None } ∷ record { from = 24; to = 25; equals_at = None } ∷ []) ∷ []
unfolding words closed form_at comment_len comment_line_len raw_len opening_tag tag_after closing_tag with_inside is_extension
    include_at entity_at named_entity decimal_entity hex_entity entity_names sign_word calls reduced rewritten parts_of
parts = refl

-- lexemes that begin at another place, with a wide `|`: a part begins where the `|` before it ends
at_a_place : calls 7 ((Chars, 2) ∷ (Opens, 2) ∷ (Chars, 1) ∷ (Pipe, 3) ∷ (Chars, 1) ∷ (Equals, 1) ∷ (Closes, 2) ∷ [])
    ≡ record {
      argument = false;
      from = 9;
      to = 19;
      parts = record { from = 11; to = 12; equals_at = None }
          ∷ record { from = 15; to = 17; equals_at = Some 16 } ∷ [];
      parent = None;
    } ∷ []
unfolding calls reduced rewritten parts_of
at_a_place = refl

-- `{{a|<noinclude>}}</noinclude>}}` ends at the first `}}` on the page, and at the last in a template
by_mode : map (λ (cs : List CallAt). map seen cs) (map (λ mode. calls 0 (words mode (codes "{{a|<noinclude>}}</noinclude>}}"))) (Page ∷ Template ∷ []))
    ≡ ((false, 0, 17) ∷ []) ∷ ((false, 0, 31) ∷ []) ∷ []
unfolding words closed form_at comment_len comment_line_len raw_len opening_tag tag_after closing_tag with_inside is_extension
    include_at entity_at named_entity decimal_entity hex_entity entity_names sign_word calls reduced rewritten parts_of
by_mode = refl

-- `{{a{{b}}}}`: the inner one has one call round it
nested : let cs = calls 0 ((Opens, 2) ∷ (Chars, 1) ∷ (Opens, 2) ∷ (Chars, 1) ∷ (Closes, 4) ∷ []) in map (nesting cs) cs ≡ 0 ∷ 1 ∷ []
unfolding calls reduced rewritten parts_of nesting
nested = refl

-- ---- free cuts: `a{{x}}{{e}}d`, where the first call shows `bc` and the second nothing

abbrev cut_items : List Item
cut_items = char None 97 ∷ char (Some 0) 98 ∷ char (Some 0) 99 ∷ whole EmptyCall (Some 1) (codes "{{e}}") ∷ char None 100 ∷ []

abbrev cut_calls : List OuterCall
cut_calls =
    record { start = 1; source = codes "{{x}}"; argument = false; parts = (3, 4) ∷ []; equals = None ∷ []; href = Some [] }
    ∷ record { start = 6; source = codes "{{e}}"; argument = false; parts = (8, 9) ∷ []; equals = None ∷ []; href = Some [] } ∷ []

free_cuts : map (is_free cut_items) (0 ∷ 1 ∷ 2 ∷ 3 ∷ 4 ∷ 5 ∷ []) ≡ true ∷ true ∷ false ∷ true ∷ true ∷ true ∷ []
free_cuts = refl

cut_bytes : map (place cut_calls cut_items) (0 ∷ 1 ∷ 3 ∷ 4 ∷ 5 ∷ []) ≡ 0 ∷ 1 ∷ 6 ∷ 11 ∷ 12 ∷ []
cut_bytes = refl

joined_page : page_of cut_calls cut_items ≡ codes "a{{x}}{{e}}d"
joined_page = refl

-- an origin counts once, however many pieces it has
joined_origins : map (span_of_origin cut_calls) (once (origin.Call 0 ∷ origin.Call 0 ∷ origin.Call 1 ∷ [])) ≡ (1, 6) ∷ (6, 11) ∷ []
joined_origins = refl
