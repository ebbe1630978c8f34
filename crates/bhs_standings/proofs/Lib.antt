pub mod RankLemmas
pub mod TableLemmas
