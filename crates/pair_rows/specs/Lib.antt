pub mod PairRows
