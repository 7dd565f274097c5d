pub mod RulesOfCalls
pub mod RulesOfCharts
pub mod RulesOfLeaving
pub mod KeptRules
