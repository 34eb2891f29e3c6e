-- The forms by the names that the code has for them. Assumes nothing.
use Rattle.image.specs.Image.{Form, form1, form2}
use Rattle.image.specs.declared.Form as code
use Rattle.image.specs.declared.Form.TheVariants.{One, Two}

abbrev pub form_of : code.Form → Form
form_of One = form1
form_of Two = form2
