-- The columns of each range that a fault can point at.
use Rattle.rpg_sheet_specs.specs.Columns.{column_fault}
use Rattle.rpg_sheet_specs.specs.declared.column.ColumnFault.{ColumnFault}
use Rattle.rpg_sheet_specs.specs.declared.column_range.ColumnRange.{ColumnRange}
use Rattle.rpg_sheet_specs.specs.declared.column_range.ColumnRange.TheVariants as range

-- the columns of a range
unfoldable pub columns_of : ColumnRange → ColumnFault
-- F
columns_of range.FileName = column_fault 7 14
columns_of range.FileType = column_fault 15 15
columns_of range.RecordLength = column_fault 24 27
columns_of range.Device = column_fault 40 46
-- E
columns_of range.TableName = column_fault 27 32
columns_of range.EntriesPerCard = column_fault 33 35
columns_of range.Entries = column_fault 36 39
columns_of range.EntryLength = column_fault 40 42
columns_of range.EntryDecimals = column_fault 44 44
columns_of range.AlternatingName = column_fault 46 51
columns_of range.AlternatingLength = column_fault 52 54
columns_of range.AlternatingDecimals = column_fault 56 56
-- L
columns_of range.FormFile = column_fault 7 14
columns_of range.OverflowLine = column_fault 20 22
-- I
columns_of range.TypeFile = column_fault 7 14
columns_of range.TypeIndicator = column_fault 19 20
columns_of range.FirstCode = column_fault 21 27
columns_of range.SecondCode = column_fault 28 34
columns_of range.ThirdCode = column_fault 35 41
columns_of range.FirstColumn = column_fault 44 47
columns_of range.LastColumn = column_fault 48 51
columns_of range.InputName = column_fault 53 58
columns_of range.InputLevel = column_fault 59 60
columns_of range.InputMatch = column_fault 61 62
columns_of range.InputPlus = column_fault 65 66
columns_of range.InputMinus = column_fault 67 68
columns_of range.InputZero = column_fault 69 70
-- C
columns_of range.ControlLevel = column_fault 7 8
columns_of range.Conditions = column_fault 9 17
columns_of range.FirstCondition = column_fault 9 11
columns_of range.SecondCondition = column_fault 12 14
columns_of range.ThirdCondition = column_fault 15 17
columns_of range.FirstFactor = column_fault 18 27
columns_of range.Operation = column_fault 28 32
columns_of range.SecondFactor = column_fault 33 42
columns_of range.ResultName = column_fault 43 48
columns_of range.ResultLength = column_fault 49 51
columns_of range.ResultDecimals = column_fault 52 52
columns_of range.HalfAdjust = column_fault 53 53
columns_of range.ResultingIndicators = column_fault 54 59
columns_of range.ResultPlus = column_fault 54 55
columns_of range.ResultMinus = column_fault 56 57
columns_of range.ResultZero = column_fault 58 59
-- O
columns_of range.LineFile = column_fault 7 14
columns_of range.SpaceBefore = column_fault 17 17
columns_of range.SpaceAfter = column_fault 18 18
columns_of range.SkipBefore = column_fault 19 20
columns_of range.SkipAfter = column_fault 21 22
columns_of range.FirstLineCondition = column_fault 23 25
columns_of range.SecondLineCondition = column_fault 26 28
columns_of range.ThirdLineCondition = column_fault 29 31
columns_of range.OutputName = column_fault 32 37
columns_of range.OutputCode = column_fault 38 38
columns_of range.BlankAfter = column_fault 39 39
columns_of range.EndPosition = column_fault 40 43
columns_of range.OutputText = column_fault 45 70
