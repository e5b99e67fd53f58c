-- What a section is told by: its name by the name's number, a number by itself. Assumes nothing.
use Rattle.std.specs.Prelude.{ℕ, ◌≡◌, refl}
use Rattle.image_class2.specs.declared.Section.{Section}
use Rattle.image_class2.specs.Sections.{number_of}
use Rattle.image_class2.specs.contracts.SectionAsSection.TheImpl as of_name
use Rattle.image_class2.specs.contracts.U32AsSection.TheImpl as of_number

pub name_number : (s : Section) → of_name.number-value.it s ≡ number_of s
name_number s = refl

pub number_itself : (n : ℕ) → of_number.number-value.it n ≡ n
number_itself n = refl
