pub mod Silhouette
