-- The numbers of the refusals, the words of the layers and the line that a fault prints. Assumes nothing.
use Rattle.std.specs.Prelude.{ℕ, List, ◌++◌, codes, decimal}
use Rattle.refusals.specs.declared.faults.Refusal.{Refusal}
use Rattle.refusals.specs.declared.faults.Refusal.TheVariants.{SizeOutOfRange, FileLength, RecordOrder, RowOutOfRange, ZeroWeight, FrameLength, FrameOrder, FeedLength, CodeOutOfField, WeightOutOfField, SurveySize, SurveyTooLong, OverwritePlace, OverwriteCode, OverwritesExhausted, RowOpen, ListLength, ListPlace, NotSure, NotDigit}
use Rattle.refusals.specs.declared.faults.Layer.{Layer}
use Rattle.refusals.specs.declared.faults.Layer.TheVariants.{Shelf, Line, Decoder, Window}
use Rattle.refusals.specs.declared.faults.Fault.{Fault}

abbrev pub number_of : Refusal → ℕ
number_of SizeOutOfRange = 1
number_of FileLength = 2
number_of RecordOrder = 3
number_of RowOutOfRange = 4
number_of ZeroWeight = 5
number_of FrameLength = 6
number_of FrameOrder = 7
number_of FeedLength = 8
number_of CodeOutOfField = 9
number_of WeightOutOfField = 10
number_of SurveySize = 11
number_of SurveyTooLong = 12
number_of OverwritePlace = 13
number_of OverwriteCode = 14
number_of OverwritesExhausted = 15
number_of RowOpen = 16
number_of ListLength = 17
number_of ListPlace = 18
number_of NotSure = 19
number_of NotDigit = 20

abbrev pub word_of : Layer → List ℕ
word_of Shelf = codes "shelf"
word_of Line = codes "line"
word_of Decoder = codes "decoder"
word_of Window = codes "window"

-- what a layer answers when it refuses
abbrev pub fault_by : Layer → Refusal → ℕ → Fault
fault_by l r p = record { refusal = r; layer = l; position = p }

-- refused NUMBER LAYER POSITION
abbrev pub line_of : Fault → List ℕ
line_of f = codes "refused " ++ (decimal (number_of f.refusal) ++ (codes " " ++ (word_of f.layer ++ (codes " " ++ decimal f.position))))
