-- The pieces of a text in the colours of their classes. The choice of colours is our own.
use Rattle.std.specs.Prelude.{List, map, Option, Some, None}
use Rattle.ecma_show.specs.declared.colour.Colour.{Colour}
use Rattle.ecma_show.specs.declared.colour.Colour.TheVariants as colours
use Rattle.ecma_show.specs.declared.paint.Part.{Part}
use Rattle.ecma_styles.specs.Styles.{Styled}
use Rattle.ecma_styles.specs.declared.«class».Class.{Class}
use Rattle.ecma_styles.specs.declared.«class».Class.TheVariants.{Keyword, Literal, Name, Property, Function, ClassName, TypeName, Decorator, Meta, BuiltIn, Text, Template, Number, Expression, Comment, Wrong}

abbrev pub colour_of : Class → Option Colour
colour_of Keyword = Some colours.Magenta
colour_of Literal = Some colours.Yellow
colour_of Name = None
colour_of Property = Some colours.Blue
colour_of Function = Some colours.Blue
colour_of ClassName = Some colours.Cyan
colour_of TypeName = Some colours.Cyan
colour_of Decorator = Some colours.Yellow
colour_of Meta = Some colours.Magenta
colour_of BuiltIn = Some colours.Magenta
colour_of Text = Some colours.Green
colour_of Template = Some colours.Green
colour_of Number = Some colours.Yellow
colour_of Expression = Some colours.Cyan
colour_of Comment = Some colours.Grey
colour_of Wrong = Some colours.Red

abbrev pub colour_of_style : Option Class → Option Colour
colour_of_style None = None
colour_of_style (Some c) = colour_of c

abbrev pub part_of : Styled → Part
part_of s = record { span = s.span; colour = colour_of_style s.style }

abbrev pub parts_of : List Styled → List Part
parts_of pieces = map part_of pieces
