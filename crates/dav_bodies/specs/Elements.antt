-- Elements that stand in elements.
use Rattle.std.specs.Prelude.{ℕ, ◌+◌, Bool, cond, ◌&&◌, List, [], ◌∷◌, ◌++◌, Option, Some, None, codes}
use Rattle.std.specs.Str.{bytes_eq}
use Rattle.dsv_base.specs.declared.prop_name.PropName.{PropName}
use Rattle.dav_elements.specs.declared.elem.Part.{Part, out-Part}
use Rattle.dav_elements.specs.declared.elem.Part.TheOpen.{Part-F, Elem-F}
use Rattle.dav_elements.specs.declared.elem.Part.TheFolds.{fold-Elem}
use Rattle.dav_elements.specs.declared.elem.Elem.{Elem}

-- the element that an opened part is, if it is one, and no text
abbrev pub opened_element : Part-F Part Elem → List Elem
opened_element (Part-F.Text text) = []
opened_element (Part-F.Child e) = e ∷ []

-- the element that a part is, if it is one, and no text
abbrev pub element_of : Part → List Elem
element_of part = opened_element (out-Part part)

-- the elements among the parts of an element, in their order; its texts are left out
abbrev pub elements_in : List Part → List Elem
elements_in [] = []
elements_in (part ∷ parts) = element_of part ++ elements_in parts

-- the element has this name, in the namespace of WebDAV
abbrev pub is_dav : List ℕ → Elem → Bool
is_dav name e = bytes_eq e.name.space (codes "DAV:") && bytes_eq e.name.name name

-- an element's name with its namespace
abbrev pub name_of_elem : Elem → PropName
name_of_elem e = e.name

-- the item of a list that has no other; none of an empty or a longer list
abbrev pub only_one : {X : Type 0} → List X → Option X
only_one [] = None
only_one (x ∷ []) = Some x
only_one (x ∷ y ∷ more) = None

-- the sum of numbers
abbrev pub sum_of : List ℕ → ℕ
sum_of [] = 0
sum_of (n ∷ ns) = n + sum_of ns

-- how many elements a part is, by how many the element is that it may be; a text is none
abbrev pub part_step : Part-F ℕ ℕ → ℕ
part_step (Part-F.Text text) = 0
part_step (Part-F.Child n) = n

-- how many elements an element is, by how many its parts are
abbrev pub elem_step : Elem-F ℕ ℕ → ℕ
elem_step e = 1 + sum_of e.parts

-- how many elements an element is, with all that stand in it
abbrev pub size_of : Elem → ℕ
size_of = fold-Elem ℕ ℕ part_step elem_step

-- how many elements these are, with all that stand in them
abbrev pub size_of_all : List Elem → ℕ
size_of_all [] = 0
size_of_all (e ∷ es) = size_of e + size_of_all es

-- the items before the first that passes
abbrev pub items_before : {X : Type 0} → (X → Bool) → List X → List X
items_before passes [] = []
items_before passes (x ∷ xs) = cond (passes x) [] (x ∷ items_before passes xs)
