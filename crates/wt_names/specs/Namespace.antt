-- The namespaces, how each is called, and the full name of a title.
use Rattle.std.specs.Prelude.{ℕ, List, [], ◌∷◌, ◌++◌, Bool, ◌||◌, Option, find, codes}
use Rattle.std.specs.Str.{str_eq_ignore_ascii_case}
use Rattle.wt_names.specs.declared.namespace.Ns.{Ns}
use Rattle.wt_names.specs.declared.namespace.Ns.TheVariants.{Main, Talk, User, UserTalk, Project, ProjectTalk, File, FileTalk, Template, TemplateTalk, Help, HelpTalk, Category, CategoryTalk}
use Rattle.wt_names.specs.declared.title.Title.{Title}

-- the canonical name; the main namespace has none
unfoldable pub name_of : Ns → List ℕ
name_of Main = []
name_of Talk = codes "Talk"
name_of User = codes "User"
name_of UserTalk = codes "User talk"
name_of Project = codes "Project"
name_of ProjectTalk = codes "Project talk"
name_of File = codes "File"
name_of FileTalk = codes "File talk"
name_of Template = codes "Template"
name_of TemplateTalk = codes "Template talk"
name_of Help = codes "Help"
name_of HelpTalk = codes "Help talk"
name_of Category = codes "Category"
name_of CategoryTalk = codes "Category talk"

-- the other name of files
unfoldable pub image : List ℕ
image = codes "Image"

-- the namespaces that a prefix can name
abbrev pub named_spaces : List Ns
named_spaces = Talk ∷ User ∷ UserTalk ∷ Project ∷ ProjectTalk ∷ File ∷ FileTalk ∷ Template ∷ TemplateTalk ∷ Help ∷ HelpTalk ∷ Category ∷ CategoryTalk ∷ []

-- the text is the name of this namespace, or the other name of files, without ASCII case
unfoldable pub is_called : List ℕ → Ns → Bool
is_called text File = str_eq_ignore_ascii_case text (name_of File) || str_eq_ignore_ascii_case text image
is_called text ns = str_eq_ignore_ascii_case text (name_of ns)

-- the namespace of this name
unfoldable pub namespace_named : List ℕ → Option Ns
namespace_named text = find (is_called text) named_spaces

-- what comes before the name in a full name: nothing, or the namespace and a colon
unfoldable pub prefix_of : Ns → List ℕ
prefix_of Main = []
prefix_of ns = name_of ns ++ codes ":"

-- the full name
unfoldable pub full_name_of : Title → List ℕ
full_name_of t = prefix_of t.ns ++ t.name
