-- The names of attributes: they are names of the grammar, and two are the same only where their
-- places in the order are.
use Rattle.std.proofs.Common.{◌≡◌, false, codes, refl}
use Rattle.std.specs.Prelude.{◌==◌}
use Rattle.std.specs.Str.{bytes_eq}
use Rattle.wt_tree.specs.declared.kind.AttrName.{AttrName}
use Rattle.wt_tree.specs.declared.kind.AttrName.TheVariants as attr
use Rattle.wt_tree.specs.Kinds.{attribute_name, order}
use Rattle.wt_html_grammar.specs.Signs.{IsAttributeName}

abbrev Same : AttrName → AttrName → Type 0
Same n m = bytes_eq (attribute_name n) (attribute_name m) ≡ (order n == order m)

same_About : (m : AttrName) → Same attr.About m
unfolding attribute_name
same_About attr.About = refl
same_About attr.Typeof = refl
same_About attr.Property = refl
same_About attr.Rel = refl
same_About attr.Href = refl
same_About attr.Class = refl
same_About attr.Colspan = refl
same_About attr.Rowspan = refl
same_About attr.Scope = refl
same_About attr.Lang = refl
same_About attr.Dir = refl
same_About attr.Id = refl
same_About attr.DataMw = refl
same_About attr.DataParsoid = refl

same_Typeof : (m : AttrName) → Same attr.Typeof m
unfolding attribute_name
same_Typeof attr.About = refl
same_Typeof attr.Typeof = refl
same_Typeof attr.Property = refl
same_Typeof attr.Rel = refl
same_Typeof attr.Href = refl
same_Typeof attr.Class = refl
same_Typeof attr.Colspan = refl
same_Typeof attr.Rowspan = refl
same_Typeof attr.Scope = refl
same_Typeof attr.Lang = refl
same_Typeof attr.Dir = refl
same_Typeof attr.Id = refl
same_Typeof attr.DataMw = refl
same_Typeof attr.DataParsoid = refl

same_Property : (m : AttrName) → Same attr.Property m
unfolding attribute_name
same_Property attr.About = refl
same_Property attr.Typeof = refl
same_Property attr.Property = refl
same_Property attr.Rel = refl
same_Property attr.Href = refl
same_Property attr.Class = refl
same_Property attr.Colspan = refl
same_Property attr.Rowspan = refl
same_Property attr.Scope = refl
same_Property attr.Lang = refl
same_Property attr.Dir = refl
same_Property attr.Id = refl
same_Property attr.DataMw = refl
same_Property attr.DataParsoid = refl

same_Rel : (m : AttrName) → Same attr.Rel m
unfolding attribute_name
same_Rel attr.About = refl
same_Rel attr.Typeof = refl
same_Rel attr.Property = refl
same_Rel attr.Rel = refl
same_Rel attr.Href = refl
same_Rel attr.Class = refl
same_Rel attr.Colspan = refl
same_Rel attr.Rowspan = refl
same_Rel attr.Scope = refl
same_Rel attr.Lang = refl
same_Rel attr.Dir = refl
same_Rel attr.Id = refl
same_Rel attr.DataMw = refl
same_Rel attr.DataParsoid = refl

same_Href : (m : AttrName) → Same attr.Href m
unfolding attribute_name
same_Href attr.About = refl
same_Href attr.Typeof = refl
same_Href attr.Property = refl
same_Href attr.Rel = refl
same_Href attr.Href = refl
same_Href attr.Class = refl
same_Href attr.Colspan = refl
same_Href attr.Rowspan = refl
same_Href attr.Scope = refl
same_Href attr.Lang = refl
same_Href attr.Dir = refl
same_Href attr.Id = refl
same_Href attr.DataMw = refl
same_Href attr.DataParsoid = refl

same_Class : (m : AttrName) → Same attr.Class m
unfolding attribute_name
same_Class attr.About = refl
same_Class attr.Typeof = refl
same_Class attr.Property = refl
same_Class attr.Rel = refl
same_Class attr.Href = refl
same_Class attr.Class = refl
same_Class attr.Colspan = refl
same_Class attr.Rowspan = refl
same_Class attr.Scope = refl
same_Class attr.Lang = refl
same_Class attr.Dir = refl
same_Class attr.Id = refl
same_Class attr.DataMw = refl
same_Class attr.DataParsoid = refl

same_Colspan : (m : AttrName) → Same attr.Colspan m
unfolding attribute_name
same_Colspan attr.About = refl
same_Colspan attr.Typeof = refl
same_Colspan attr.Property = refl
same_Colspan attr.Rel = refl
same_Colspan attr.Href = refl
same_Colspan attr.Class = refl
same_Colspan attr.Colspan = refl
same_Colspan attr.Rowspan = refl
same_Colspan attr.Scope = refl
same_Colspan attr.Lang = refl
same_Colspan attr.Dir = refl
same_Colspan attr.Id = refl
same_Colspan attr.DataMw = refl
same_Colspan attr.DataParsoid = refl

same_Rowspan : (m : AttrName) → Same attr.Rowspan m
unfolding attribute_name
same_Rowspan attr.About = refl
same_Rowspan attr.Typeof = refl
same_Rowspan attr.Property = refl
same_Rowspan attr.Rel = refl
same_Rowspan attr.Href = refl
same_Rowspan attr.Class = refl
same_Rowspan attr.Colspan = refl
same_Rowspan attr.Rowspan = refl
same_Rowspan attr.Scope = refl
same_Rowspan attr.Lang = refl
same_Rowspan attr.Dir = refl
same_Rowspan attr.Id = refl
same_Rowspan attr.DataMw = refl
same_Rowspan attr.DataParsoid = refl

same_Scope : (m : AttrName) → Same attr.Scope m
unfolding attribute_name
same_Scope attr.About = refl
same_Scope attr.Typeof = refl
same_Scope attr.Property = refl
same_Scope attr.Rel = refl
same_Scope attr.Href = refl
same_Scope attr.Class = refl
same_Scope attr.Colspan = refl
same_Scope attr.Rowspan = refl
same_Scope attr.Scope = refl
same_Scope attr.Lang = refl
same_Scope attr.Dir = refl
same_Scope attr.Id = refl
same_Scope attr.DataMw = refl
same_Scope attr.DataParsoid = refl

same_Lang : (m : AttrName) → Same attr.Lang m
unfolding attribute_name
same_Lang attr.About = refl
same_Lang attr.Typeof = refl
same_Lang attr.Property = refl
same_Lang attr.Rel = refl
same_Lang attr.Href = refl
same_Lang attr.Class = refl
same_Lang attr.Colspan = refl
same_Lang attr.Rowspan = refl
same_Lang attr.Scope = refl
same_Lang attr.Lang = refl
same_Lang attr.Dir = refl
same_Lang attr.Id = refl
same_Lang attr.DataMw = refl
same_Lang attr.DataParsoid = refl

same_Dir : (m : AttrName) → Same attr.Dir m
unfolding attribute_name
same_Dir attr.About = refl
same_Dir attr.Typeof = refl
same_Dir attr.Property = refl
same_Dir attr.Rel = refl
same_Dir attr.Href = refl
same_Dir attr.Class = refl
same_Dir attr.Colspan = refl
same_Dir attr.Rowspan = refl
same_Dir attr.Scope = refl
same_Dir attr.Lang = refl
same_Dir attr.Dir = refl
same_Dir attr.Id = refl
same_Dir attr.DataMw = refl
same_Dir attr.DataParsoid = refl

same_Id : (m : AttrName) → Same attr.Id m
unfolding attribute_name
same_Id attr.About = refl
same_Id attr.Typeof = refl
same_Id attr.Property = refl
same_Id attr.Rel = refl
same_Id attr.Href = refl
same_Id attr.Class = refl
same_Id attr.Colspan = refl
same_Id attr.Rowspan = refl
same_Id attr.Scope = refl
same_Id attr.Lang = refl
same_Id attr.Dir = refl
same_Id attr.Id = refl
same_Id attr.DataMw = refl
same_Id attr.DataParsoid = refl

same_DataMw : (m : AttrName) → Same attr.DataMw m
unfolding attribute_name
same_DataMw attr.About = refl
same_DataMw attr.Typeof = refl
same_DataMw attr.Property = refl
same_DataMw attr.Rel = refl
same_DataMw attr.Href = refl
same_DataMw attr.Class = refl
same_DataMw attr.Colspan = refl
same_DataMw attr.Rowspan = refl
same_DataMw attr.Scope = refl
same_DataMw attr.Lang = refl
same_DataMw attr.Dir = refl
same_DataMw attr.Id = refl
same_DataMw attr.DataMw = refl
same_DataMw attr.DataParsoid = refl

same_DataParsoid : (m : AttrName) → Same attr.DataParsoid m
unfolding attribute_name
same_DataParsoid attr.About = refl
same_DataParsoid attr.Typeof = refl
same_DataParsoid attr.Property = refl
same_DataParsoid attr.Rel = refl
same_DataParsoid attr.Href = refl
same_DataParsoid attr.Class = refl
same_DataParsoid attr.Colspan = refl
same_DataParsoid attr.Rowspan = refl
same_DataParsoid attr.Scope = refl
same_DataParsoid attr.Lang = refl
same_DataParsoid attr.Dir = refl
same_DataParsoid attr.Id = refl
same_DataParsoid attr.DataMw = refl
same_DataParsoid attr.DataParsoid = refl

pub names_eq : (n m : AttrName) → Same n m
names_eq attr.About m = same_About m
names_eq attr.Typeof m = same_Typeof m
names_eq attr.Property m = same_Property m
names_eq attr.Rel m = same_Rel m
names_eq attr.Href m = same_Href m
names_eq attr.Class m = same_Class m
names_eq attr.Colspan m = same_Colspan m
names_eq attr.Rowspan m = same_Rowspan m
names_eq attr.Scope m = same_Scope m
names_eq attr.Lang m = same_Lang m
names_eq attr.Dir m = same_Dir m
names_eq attr.Id m = same_Id m
names_eq attr.DataMw m = same_DataMw m
names_eq attr.DataParsoid m = same_DataParsoid m

pub good_name : (n : AttrName) → IsAttributeName (attribute_name n)
unfolding attribute_name
good_name attr.About = (refl, (refl, (refl, (refl, (refl, tt)))))
good_name attr.Typeof = (refl, (refl, (refl, (refl, (refl, (refl, tt))))))
good_name attr.Property = (refl, (refl, (refl, (refl, (refl, (refl, (refl, (refl, tt))))))))
good_name attr.Rel = (refl, (refl, (refl, tt)))
good_name attr.Href = (refl, (refl, (refl, (refl, tt))))
good_name attr.Class = (refl, (refl, (refl, (refl, (refl, tt)))))
good_name attr.Colspan = (refl, (refl, (refl, (refl, (refl, (refl, (refl, tt)))))))
good_name attr.Rowspan = (refl, (refl, (refl, (refl, (refl, (refl, (refl, tt)))))))
good_name attr.Scope = (refl, (refl, (refl, (refl, (refl, tt)))))
good_name attr.Lang = (refl, (refl, (refl, (refl, tt))))
good_name attr.Dir = (refl, (refl, (refl, tt)))
good_name attr.Id = (refl, (refl, tt))
good_name attr.DataMw = (refl, (refl, (refl, (refl, (refl, (refl, (refl, tt)))))))
good_name attr.DataParsoid = (refl, (refl, (refl, (refl, (refl, (refl, (refl, (refl, (refl, (refl, (refl, (refl, tt))))))))))))

pub not_edit : (n : AttrName) → bytes_eq (attribute_name n) (codes "data-wt-edit") ≡ false
unfolding attribute_name
not_edit attr.About = refl
not_edit attr.Typeof = refl
not_edit attr.Property = refl
not_edit attr.Rel = refl
not_edit attr.Href = refl
not_edit attr.Class = refl
not_edit attr.Colspan = refl
not_edit attr.Rowspan = refl
not_edit attr.Scope = refl
not_edit attr.Lang = refl
not_edit attr.Dir = refl
not_edit attr.Id = refl
not_edit attr.DataMw = refl
not_edit attr.DataParsoid = refl
