pub mod WrittenExpressions
