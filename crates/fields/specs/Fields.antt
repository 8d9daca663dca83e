-- The fields of 2, of 101 and of 256 elements. Assumes nothing.
use Rattle.fields.specs.declared.bits.Bits.{Bits}
use Rattle.fields.specs.declared.remainders.Remainders.{Remainders}
use Rattle.fields.specs.declared.polynomials.Polynomials.{Polynomials}
use Rattle.fields.specs.Models.{FieldModel}
use Rattle.fields.specs.Elements.{ElementOf, field_of}
use Rattle.fields.specs.BitLaws.{codes_2}
use Rattle.fields.specs.RemainderLaws.{codes_101}
use Rattle.fields.specs.PolynomialLaws.{codes_256}

-- the elements of each field
abbrev pub Gf2 : Type 0
Gf2 = ElementOf Bits codes_2

abbrev pub Gf101 : Type 0
Gf101 = ElementOf Remainders codes_101

abbrev pub Gf256 : Type 0
Gf256 = ElementOf Polynomials codes_256

-- the bits, with exclusive or and and
abbrev pub bits : FieldModel Gf2
bits = field_of Bits codes_2

-- the remainders modulo 101
abbrev pub remainders : FieldModel Gf101
remainders = field_of Remainders codes_101

-- the polynomials over the bits modulo the polynomial of code 285
abbrev pub polynomials : FieldModel Gf256
polynomials = field_of Polynomials codes_256
